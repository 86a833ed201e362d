-- Which bodies and records encode an answer.
use Rattle.std.proofs.Common.{◌≡◌, ◌≢◌, ◌<◌, ◌^◌, ℕ, ℤ, List, [], ◌++◌, length, refl, sym, ap, ◌∙◌, arith}
use Rattle.std.specs.Prelude.{All, if◌then◌else◌, ◌==◌}
use Rattle.std.specs.List.{flat_map}
use Rattle.std.proofs.lemmas.List.{append-nil}
use Rattle.wire_fields.specs.Numbers.{unsigned, signed, IsUnsigned, IsSigned}
use Rattle.wire_fields.proofs.Encoding.{length-unsigned}
use Rattle.wire_records.specs.declared.reply.Reply.{Reply}
use Rattle.wire_records.specs.declared.reply.Reply.TheVariants.{Done, Asset, Account, Order, Refused}
use Rattle.wire_records.specs.declared.reply.Refusal.{Refusal}
use Rattle.wire_records.specs.Records.{Record, AreBytes}
use Rattle.wire_records.specs.Commands.{Answer, Plain, Batch}
use Rattle.wire_records.specs.Refusals.{code_of}
use Rattle.wire_records.proofs.Bodies.{number_unique, same_record}
use Rattle.wire_records.proofs.Codes.{code_of-byte}
use Rattle.flow_orders.specs.Outcomes.{Fill, Clearing, Skipping, Outcome, Cleared, Skipped}
use Rattle.journal_records.specs.Numbered.{ClearedBatch, SkippedBatch}
use Rattle.journal_records.specs.Replies.{fields_of, answer_body, EncodesAnswer}
use Rattle.journal_records.specs.Bodies.{reply_tag, reply_body, fill_encoding, clearing_encoding, skipping_encoding, IsFill}
use Rattle.journal_records.specs.Private.{EncodesCleared, EncodesNoCleared, EncodesSkipped, EncodesNoSkipped, EncodesReply, EncodesNoReply}
use Rattle.journal_records.proofs.FieldForms.{tag_of_reply, body_of_reply, reply_fits, reply_from, body_of_clearing, clearing_fits, clearing_from, body_of_skip, skipping_fits, skipping_from}
use Rattle.journal_records.proofs.Encoded.{reply_tag-most}

-- a clearing's body from the imbalances on, and from each field before them on
abbrev pub from_residuals : Clearing → List ℕ
from_residuals c = flat_map (signed 8) c.residuals ++ signed 16 c.gap

abbrev pub from_fills : Clearing → List ℕ
from_fills c = flat_map fill_encoding c.fills ++ from_residuals c

abbrev pub from_orders : Clearing → List ℕ
from_orders c = unsigned 4 (length c.fills) ++ from_fills c

abbrev pub from_prices : Clearing → List ℕ
from_prices c = flat_map (signed 8) c.prices ++ from_orders c

abbrev pub from_assets : Clearing → List ℕ
from_assets c = unsigned 2 (length c.prices) ++ from_prices c

-- a clearing's body begins with the batch's number
pub cleared_apart : (body : List ℕ) (b : ClearedBatch) → EncodesCleared body b → body ≡ unsigned 4 b.batch ++ from_assets b.clearing
unfolding clearing_encoding
cleared_apart body b s = s.encoded

-- a clearing's fields, read one after the other to the end
pub cleared_read : (body : List ℕ) (batch assets orders : ℕ) (prices : List ℤ) (fills : List Fill) (residuals : List ℤ) (gap : ℤ) (a b c d e f g : List ℕ)
    → IsUnsigned 4 batch → IsUnsigned 2 assets → IsUnsigned 4 orders → IsSigned 16 gap
    → All (IsSigned 8) prices → All IsFill fills → All (IsSigned 8) residuals
    → length prices ≡ assets → length fills ≡ orders → length residuals ≡ assets
    → body ≡ unsigned 4 batch ++ a → a ≡ unsigned 2 assets ++ b → b ≡ flat_map (signed 8) prices ++ c → c ≡ unsigned 4 orders ++ d
    → d ≡ flat_map fill_encoding fills ++ e → e ≡ flat_map (signed 8) residuals ++ f → f ≡ signed 16 gap ++ g → g ≡ []
    → EncodesCleared body (record { batch = batch; clearing = record { prices = prices; fills = fills; residuals = residuals; gap = gap } })
unfolding clearing_encoding
cleared_read body batch assets orders prices fills residuals gap a b c d e f g batch_fits assets_fits orders_fits gap_fits prices_fit fills_fit residuals_fit price_count fill_count residual_count of_body of_a of_b of_c of_d of_e of_f of_g = record {
  batch = batch_fits;
  fits = record {
    count = rw price_count assets_fits;
    prices = prices_fit;
    fill_count = rw fill_count orders_fits;
    fills = fills_fit;
    residual_each = residual_count ∙ sym price_count;
    residuals = residuals_fit;
    gap = gap_fits;
  };
  encoded = rw (price_count, fill_count, of_body, of_a, of_b, of_c, of_d, of_e, of_f, of_g, append-nil (signed 16 gap)) refl;
}

-- a skip's body from the trace's length on, and from each field before it on
abbrev pub from_steps : Skipping → List ℕ
from_steps s = unsigned 4 (length s.trace) ++ s.trace

abbrev pub from_end : Skipping → List ℕ
from_end s = signed 16 s.end_dual ++ from_steps s

abbrev pub from_start : Skipping → List ℕ
from_start s = signed 16 s.start_dual ++ from_end s

-- a skip's body begins with the batch's number
pub skipped_apart : (body : List ℕ) (b : SkippedBatch) → EncodesSkipped body b → body ≡ unsigned 4 b.batch ++ from_start b.skipping
unfolding skipping_encoding
skipped_apart body b s = s.encoded

-- a skip's fields, read one after the other to the end
pub skipped_read : (body : List ℕ) (batch steps : ℕ) (start_dual end_dual : ℤ) (trace a b c d e : List ℕ)
    → IsUnsigned 4 batch → IsUnsigned 4 steps → IsSigned 16 start_dual → IsSigned 16 end_dual → AreBytes trace → length trace ≡ steps
    → body ≡ unsigned 4 batch ++ a → a ≡ signed 16 start_dual ++ b → b ≡ signed 16 end_dual ++ c → c ≡ unsigned 4 steps ++ d → d ≡ trace ++ e → e ≡ []
    → EncodesSkipped body (record { batch = batch; skipping = record { trace = trace; start_dual = start_dual; end_dual = end_dual } })
unfolding skipping_encoding
skipped_read body batch steps start_dual end_dual trace a b c d e batch_fits steps_fit start_fits end_fits small count of_body of_a of_b of_c of_d of_e = record {
  batch = batch_fits;
  fits = record { start_dual = start_fits; end_dual = end_fits; steps = rw count steps_fit; trace = small };
  encoded = rw (count, of_body, of_a, of_b, of_c, of_d, of_e, append-nil trace) refl;
}

-- how long the body of a plain reply of this tag is
abbrev pub size_of : ℕ → ℕ
size_of tag = if tag == 128 then 0 else (if tag == 129 then 2 else (if tag == 130 then 4 else (if tag == 131 then 8 else 1)))

-- a body has the length of its tag
length-reply : (reply : Reply) → length (reply_body reply) ≡ size_of (reply_tag reply)
unfolding reply_body
length-reply Done = refl
length-reply (Asset asset) = length-unsigned 2 asset
length-reply (Account account) = length-unsigned 4 account
length-reply (Order order) = length-unsigned 8 order
length-reply (Refused refusal) = length-unsigned 1 (code_of refusal)

-- a body of another length than its tag's is no plain reply's
pub no_reply_of_size : (tag : ℕ) (body : List ℕ) → length body ≢ size_of tag → EncodesNoReply tag body
no_reply_of_size tag body other reply s = other (ap length s.encoded ∙ length-reply reply ∙ ap size_of (sym s.tag_is))

-- a body with a code that no refusal has is no reply's
pub no_reply_of_code : (body : List ℕ) (code : ℕ) → code < 2 ^ 8 → body ≡ unsigned 1 code → ((refusal : Refusal) → code_of refusal ≢ code) → EncodesNoReply 132 body
unfolding reply_body
no_reply_of_code body code fits encoded none Done s = absurd (omega (arith, s.tag_is))
no_reply_of_code body code fits encoded none (Asset asset) s = absurd (omega (arith, s.tag_is))
no_reply_of_code body code fits encoded none (Account account) s = absurd (omega (arith, s.tag_is))
no_reply_of_code body code fits encoded none (Order order) s = absurd (omega (arith, s.tag_is))
no_reply_of_code body code fits encoded none (Refused refusal) s =
    none refusal (number_unique 1 (code_of refusal) code (omega (arith, code_of-byte refusal)) fits (sym s.encoded ∙ encoded))

-- the tag and the body of an answer's record
answer_parts : (r : Record) (answer : Answer Outcome) → EncodesAnswer r answer → (r.tag ≡ (fields_of answer).0) × (r.body ≡ answer_body answer)
answer_parts r answer s = (ap (λ (x : Record). x.tag) s.encoded, ap (λ (x : Record). x.body) s.encoded)

-- a record of the tag 133 encodes a clearing or nothing
pub none_cleared : (r : Record) → r.tag ≡ 133 → EncodesNoCleared r.body → (answer : Answer Outcome) → ¬ EncodesAnswer r answer
none_cleared r tag none (Plain reply) s = omega (arith, tag, (answer_parts r (Plain reply) s).0, tag_of_reply reply, reply_tag-most reply)
none_cleared r tag none (Batch number (Cleared c)) s =
    let fits = clearing_from number c s.fits in
    none (record { batch = number; clearing = c }) (record { batch = fits.0; fits = fits.1; encoded = (answer_parts r (Batch number (Cleared c)) s).1 ∙ body_of_clearing number c })
none_cleared r tag none (Batch number (Skipped t)) s = omega (arith, tag, (answer_parts r (Batch number (Skipped t)) s).0)

-- a record of the tag 134 encodes a skip or nothing
pub none_skipped : (r : Record) → r.tag ≡ 134 → EncodesNoSkipped r.body → (answer : Answer Outcome) → ¬ EncodesAnswer r answer
none_skipped r tag none (Plain reply) s = omega (arith, tag, (answer_parts r (Plain reply) s).0, tag_of_reply reply, reply_tag-most reply)
none_skipped r tag none (Batch number (Cleared c)) s = omega (arith, tag, (answer_parts r (Batch number (Cleared c)) s).0)
none_skipped r tag none (Batch number (Skipped t)) s =
    let fits = skipping_from number t s.fits in
    none (record { batch = number; skipping = t }) (record { batch = fits.0; fits = fits.1; encoded = (answer_parts r (Batch number (Skipped t)) s).1 ∙ body_of_skip number t })

-- a record of another tag encodes a plain reply or nothing
pub none_plain : (r : Record) → r.tag ≢ 133 → r.tag ≢ 134 → EncodesNoReply r.tag r.body → (answer : Answer Outcome) → ¬ EncodesAnswer r answer
none_plain r cleared skipped none (Plain reply) s =
    let parts = answer_parts r (Plain reply) s in
    none reply (record { fits = reply_from reply s.fits; tag_is = parts.0 ∙ tag_of_reply reply; encoded = parts.1 ∙ body_of_reply reply })
none_plain r cleared skipped none (Batch number (Cleared c)) s = cleared (answer_parts r (Batch number (Cleared c)) s).0
none_plain r cleared skipped none (Batch number (Skipped t)) s = skipped (answer_parts r (Batch number (Skipped t)) s).0

-- the answer of a clearing's body
pub cleared_answer : (r : Record) (b : ClearedBatch) → r.tag ≡ 133 → EncodesCleared r.body b → EncodesAnswer r (Batch b.batch (Cleared b.clearing))
cleared_answer r b tag s = record {
  fits = clearing_fits b.batch b.clearing s.batch s.fits;
  encoded = same_record r 133 (answer_body (Batch b.batch (Cleared b.clearing))) tag (s.encoded ∙ sym (body_of_clearing b.batch b.clearing));
}

-- the answer of a skip's body
pub skipped_answer : (r : Record) (b : SkippedBatch) → r.tag ≡ 134 → EncodesSkipped r.body b → EncodesAnswer r (Batch b.batch (Skipped b.skipping))
skipped_answer r b tag s = record {
  fits = skipping_fits b.batch b.skipping s.batch s.fits;
  encoded = same_record r 134 (answer_body (Batch b.batch (Skipped b.skipping))) tag (s.encoded ∙ sym (body_of_skip b.batch b.skipping));
}

-- the answer of a plain reply's body
pub plain_answer : (r : Record) (reply : Reply) → EncodesReply r.tag r.body reply → EncodesAnswer r (Plain reply)
plain_answer r reply s = record {
  fits = reply_fits reply s.fits;
  encoded = same_record r (fields_of (Plain reply)).0 (answer_body (Plain reply)) (s.tag_is ∙ sym (tag_of_reply reply)) (s.encoded ∙ sym (body_of_reply reply));
}

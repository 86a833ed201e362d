-- The body of an answer by its fields is that part by part, and its fields fit where the parts do.
use Rattle.std.proofs.Common.{◌≡◌, ℕ, ℤ, List, [], ◌∷◌, ◌++◌, length, map, append_assoc, refl, sym, ap, ◌∙◌}
use Rattle.std.specs.List.{flat_map, AllByRecursion}
use Rattle.std.proofs.lemmas.Grind.{flat_map-append}
use Rattle.std.proofs.lemmas.List.{append-nil}
use Rattle.std.proofs.lemmas.List.Folds.{flat_map-map}
use Rattle.std.proofs.lemmas.List.Elements.{All-nil, All-from_recursion, recursion_from_All}
use Rattle.wire_fields.specs.Numbers.{unsigned, signed, IsUnsigned, IsSigned}
use Rattle.wire_records.specs.declared.reply.Reply.{Reply}
use Rattle.wire_records.specs.declared.reply.Reply.TheVariants.{Done, Asset, Account, Order, Refused}
use Rattle.wire_records.specs.Commands.{Plain, Batch}
use Rattle.wire_records.specs.Refusals.{code_of}
use Rattle.wire_records.proofs.Codes.{code_of-byte}
use Rattle.flow_orders.specs.Outcomes.{Fill, Clearing, Skipping, Cleared, Skipped}
use Rattle.wire_records.specs.Fields.{Field, Unsigned, Signed, field_bytes, FitsField}
use Rattle.journal_records.specs.Replies.{fill_fields, fields_of, answer_body, IsAnswer}
use Rattle.journal_records.specs.Bodies.{reply_tag, reply_body, fill_encoding, clearing_encoding, skipping_encoding, IsReply, IsFill, IsClearing, IsSkipping}

-- ---- plain replies

pub tag_of_reply : (r : Reply) → (fields_of (Plain r)).0 ≡ reply_tag r
tag_of_reply Done = refl
tag_of_reply (Asset asset) = refl
tag_of_reply (Account account) = refl
tag_of_reply (Order order) = refl
tag_of_reply (Refused refusal) = refl

pub body_of_reply : (r : Reply) → answer_body (Plain r) ≡ reply_body r
unfolding answer_body reply_body
body_of_reply Done = refl
body_of_reply (Asset asset) = append-nil (unsigned 2 asset)
body_of_reply (Account account) = append-nil (unsigned 4 account)
body_of_reply (Order order) = append-nil (unsigned 8 order)
body_of_reply (Refused refusal) = append-nil (unsigned 1 (code_of refusal))

pub reply_fits : (r : Reply) → IsReply r → IsAnswer (Plain r)
reply_fits Done h = All-nil FitsField
reply_fits (Asset asset) h = All-from_recursion FitsField (Unsigned 2 asset ∷ []) (h, tt)
reply_fits (Account account) h = All-from_recursion FitsField (Unsigned 4 account ∷ []) (h, tt)
reply_fits (Order order) h = All-from_recursion FitsField (Unsigned 8 order ∷ []) (h, tt)
reply_fits (Refused refusal) h = All-from_recursion FitsField (Unsigned 1 (code_of refusal) ∷ []) (code_of-byte refusal, tt)

pub reply_from : (r : Reply) → IsAnswer (Plain r) → IsReply r
reply_from Done h = tt
reply_from (Asset asset) h = (recursion_from_All FitsField (Unsigned 2 asset ∷ []) h).0
reply_from (Account account) h = (recursion_from_All FitsField (Unsigned 4 account ∷ []) h).0
reply_from (Order order) h = (recursion_from_All FitsField (Unsigned 8 order ∷ []) h).0
reply_from (Refused refusal) h = tt

-- ---- fields of lists

-- the fields of fills
fill_bytes : (fills : List Fill) → flat_map field_bytes (flat_map fill_fields fills) ≡ flat_map fill_encoding fills
unfolding fill_encoding
fill_bytes [] = refl
fill_bytes (f ∷ fills) =
    ap (λ xs. unsigned 8 f.order ++ (unsigned 4 f.rate ++ xs)) (fill_bytes fills) ∙ sym (append_assoc (unsigned 8 f.order) (unsigned 4 f.rate) (flat_map fill_encoding fills))

fills_fit : (fills : List Fill) → AllByRecursion IsFill fills → AllByRecursion FitsField (flat_map fill_fields fills)
fills_fit [] h = tt
fills_fit (f ∷ fills) h = (h.0.0, (h.0.1, fills_fit fills h.1))

fills_from : (fills : List Fill) → AllByRecursion FitsField (flat_map fill_fields fills) → AllByRecursion IsFill fills
fills_from [] h = tt
fills_from (f ∷ fills) h = ((h.0, h.1.0), fills_from fills h.1.1)

-- the fields of numbers with a sign
signs_fit : (numbers : List ℤ) → AllByRecursion (IsSigned 8) numbers → AllByRecursion FitsField (map (Signed 8) numbers)
signs_fit [] h = tt
signs_fit (z ∷ numbers) h = (h.0, signs_fit numbers h.1)

signs_from : (numbers : List ℤ) → AllByRecursion FitsField (map (Signed 8) numbers) → AllByRecursion (IsSigned 8) numbers
signs_from [] h = tt
signs_from (z ∷ numbers) h = (h.0, signs_from numbers h.1)

-- one list of fields after another
both_fit : (xs ys : List Field) → AllByRecursion FitsField xs → AllByRecursion FitsField ys → AllByRecursion FitsField (xs ++ ys)
both_fit [] ys h k = k
both_fit (x ∷ xs) ys h k = (h.0, both_fit xs ys h.1 k)

both_from : (xs ys : List Field) → AllByRecursion FitsField (xs ++ ys) → AllByRecursion FitsField xs × AllByRecursion FitsField ys
both_from [] ys h = (tt, h)
both_from (x ∷ xs) ys h = let rest = both_from xs ys h.1 in ((h.0, rest.0), rest.1)

-- ---- batches

-- the fields of a clearing up to the prices, those of the fills, and those up to the imbalances
abbrev to_prices : ℕ → Clearing → List Field
to_prices number c = Unsigned 4 number ∷ Unsigned 2 (length c.prices) ∷ map (Signed 8) c.prices

abbrev of_fills : Clearing → List Field
of_fills c = Unsigned 4 (length c.fills) ∷ flat_map fill_fields c.fills

abbrev to_residuals : ℕ → Clearing → List Field
to_residuals number c = to_prices number c ++ of_fills c ++ map (Signed 8) c.residuals

-- the parts of a clearing's body, one after the other
in_turn : (a b p c f r g : List ℕ) → a ++ (b ++ p) ++ (c ++ f) ++ r ++ (g ++ []) ≡ a ++ (b ++ (p ++ (c ++ (f ++ (r ++ g)))))
in_turn a b p c f r g = simp (append_assoc, append-nil)

pub body_of_clearing : (number : ℕ) (c : Clearing) → answer_body (Batch number (Cleared c)) ≡ clearing_encoding number c
unfolding answer_body clearing_encoding
body_of_clearing number c =
    let prices = flat_map field_bytes (map (Signed 8) c.prices) in
    let fills = flat_map field_bytes (flat_map fill_fields c.fills) in
    let residuals = flat_map field_bytes (map (Signed 8) c.residuals) in
    flat_map-append field_bytes (to_residuals number c) (Signed 16 c.gap ∷ [])
    ∙ ap (λ xs. xs ++ (signed 16 c.gap ++ [])) (flat_map-append field_bytes (to_prices number c ++ of_fills c) (map (Signed 8) c.residuals)
    ∙ ap (λ xs. xs ++ residuals) (flat_map-append field_bytes (to_prices number c) (of_fills c)))
    ∙ in_turn (unsigned 4 number) (unsigned 2 (length c.prices)) prices (unsigned 4 (length c.fills)) fills residuals (signed 16 c.gap)
    ∙ ap (λ xs. unsigned 4 number ++ (unsigned 2 (length c.prices) ++ (xs ++ (unsigned 4 (length c.fills) ++ (fills ++ (residuals ++ signed 16 c.gap)))))) (flat_map-map field_bytes (Signed 8) c.prices)
    ∙ ap (λ xs. unsigned 4 number ++ (unsigned 2 (length c.prices) ++ (flat_map (signed 8) c.prices ++ (unsigned 4 (length c.fills) ++ (xs ++ (residuals ++ signed 16 c.gap)))))) (fill_bytes c.fills)
    ∙ ap (λ xs. unsigned 4 number ++ (unsigned 2 (length c.prices) ++ (flat_map (signed 8) c.prices ++ (unsigned 4 (length c.fills) ++ (flat_map fill_encoding c.fills ++ (xs ++ signed 16 c.gap)))))) (flat_map-map field_bytes (Signed 8) c.residuals)

pub clearing_fits : (number : ℕ) (c : Clearing) → IsUnsigned 4 number → IsClearing c → IsAnswer (Batch number (Cleared c))
clearing_fits number c h k =
    let prices = signs_fit c.prices (recursion_from_All (IsSigned 8) c.prices k.prices) in
    let fills = fills_fit c.fills (recursion_from_All IsFill c.fills k.fills) in
    let residuals = signs_fit c.residuals (recursion_from_All (IsSigned 8) c.residuals k.residuals) in
    let prefix = both_fit (to_prices number c) (of_fills c) (h, (k.count, prices)) (k.fill_count, fills) in
    let all = both_fit (to_residuals number c) (Signed 16 c.gap ∷ []) (both_fit (to_prices number c ++ of_fills c) (map (Signed 8) c.residuals) prefix residuals) (k.gap, tt) in
    (All-from_recursion FitsField (fields_of (Batch number (Cleared c))).1 all, k.residual_each)

pub clearing_from : (number : ℕ) (c : Clearing) → IsAnswer (Batch number (Cleared c)) → IsUnsigned 4 number × IsClearing c
clearing_from number c h =
    let all = both_from (to_residuals number c) (Signed 16 c.gap ∷ []) (recursion_from_All FitsField (fields_of (Batch number (Cleared c))).1 h.0) in
    let most = both_from (to_prices number c ++ of_fills c) (map (Signed 8) c.residuals) all.0 in
    let prefix = both_from (to_prices number c) (of_fills c) most.0 in (
      prefix.0.0,
      record {
        count = prefix.0.1.0;
        prices = All-from_recursion (IsSigned 8) c.prices (signs_from c.prices prefix.0.1.1);
        fill_count = prefix.1.0;
        fills = All-from_recursion IsFill c.fills (fills_from c.fills prefix.1.1);
        residual_each = h.1;
        residuals = All-from_recursion (IsSigned 8) c.residuals (signs_from c.residuals most.1);
        gap = all.1.0;
      },
    )

pub body_of_skip : (number : ℕ) (s : Skipping) → answer_body (Batch number (Skipped s)) ≡ skipping_encoding number s
unfolding answer_body skipping_encoding
body_of_skip number s = ap (λ xs. unsigned 4 number ++ (signed 16 s.start_dual ++ (signed 16 s.end_dual ++ (unsigned 4 (length s.trace) ++ xs)))) (append-nil s.trace)

pub skipping_fits : (number : ℕ) (s : Skipping) → IsUnsigned 4 number → IsSkipping s → IsAnswer (Batch number (Skipped s))
skipping_fits number s h k =
    All-from_recursion FitsField (fields_of (Batch number (Skipped s))).1 (h, (k.start_dual, (k.end_dual, (k.steps, ((refl, k.trace), tt)))))

pub skipping_from : (number : ℕ) (s : Skipping) → IsAnswer (Batch number (Skipped s)) → IsUnsigned 4 number × IsSkipping s
skipping_from number s h =
    let all = recursion_from_All FitsField (fields_of (Batch number (Skipped s))).1 h in
    (all.0, record { start_dual = all.1.0; end_dual = all.1.1.0; steps = all.1.1.1.0; trace = all.1.1.1.1.0.1 })

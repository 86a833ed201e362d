-- A history may be cut after any of its entries, and a checkpoint of the market there replaces the part before the cut.
use Rattle.std.proofs.Common.{◌≡◌, ◌+◌, ◌<◌, ◌≤◌, ◌↔◌, ℕ, List, [], ◌∷◌, ◌++◌, length, refl, sym, ap, subst, ◌∙◌, append_assoc, length-append, arith}
use Rattle.std.specs.Prelude.{All}
use Rattle.std.specs.List.{flat_map}
use Rattle.std.proofs.lemmas.Grind.{flat_map-append}
use Rattle.std.proofs.lemmas.List.Elements.{All-nil, All-head, All-tail, All-append}
use Rattle.wire_records.specs.Records.{Record}
use Rattle.wire_records.specs.Commands.{Pair}
use Rattle.wire_records.specs.Versions.{IsReadAs}
use Rattle.flow_orders.specs.Outcomes.{Outcome, IsAdmissibleOutcome}
use Rattle.journal_records.specs.Pairs.{IsPair, pair_encoding}
use Rattle.journal_records.specs.Formats.{records_of}
use Rattle.journal_records.proofs.Files.{journals_readable}
use Rattle.market_rules.specs.Market.{Market}
use Rattle.market_rules.specs.Journal.{Follows}
use Rattle.market_rules.proofs.LawProofs.{market_is_determined, sequences_compose}
use Rattle.market_snapshot.specs.Checkpoints.{checkpoint_bytes, IsCheckpoint}
use Rattle.market_history.specs.Histories.{Start, Kept, CanStart, market_of, encode_start}
use Rattle.batch_audit.proofs.LawProofs.{pair_is}
use Rattle.history_words.proofs.Starts.{one_start}
use Rattle.flow_exchange.specs.declared.form.Form.TheVariants.{Checkpoint}
use Rattle.exit_status.specs.declared.status.Status.TheVariants.{Done}
use Rattle.flow_exchange.specs.HistoryFiles.{AreLegalFrom}
use Rattle.flow_exchange.specs.Program.{ComesTo}
use Rattle.flow_laws.specs.Laws.{EncodesHistory, HistoriesGoOn}
use Rattle.flow_laws.proofs.CheckpointLaws.{checkpoints_of_histories}

-- ---- valid entries

-- valid entries lead to one market
follows_once : (old : Market) (pairs : List (Pair Record Outcome)) (m n : Market) → Follows IsReadAs IsAdmissibleOutcome old pairs m → Follows IsReadAs IsAdmissibleOutcome old pairs n → m ≡ n
follows_once old [] m n a b = a ∙ sym b
follows_once old (pair ∷ pairs) m n a b =
    let same = market_is_determined old pair.asked pair.answer a.0 b.0 a.1 b.1 in
    follows_once b.0 pairs m n (subst (λ (k : Market). Follows IsReadAs IsAdmissibleOutcome k pairs m) same a.2) b.2

-- what holds of all holds of the later ones
later : (P : Pair Record Outcome → Type 0) (pairs more : List (Pair Record Outcome)) → All P (pairs ++ more) → All P more
later P [] more all = all
later P (pair ∷ pairs) more all = later P pairs more (All-tail P pair (pairs ++ more) all)

cut : (start : Start) (pairs more : List (Pair Record Outcome)) (old new : Market) → AreLegalFrom start pairs old → AreLegalFrom (Kept old) more new ↔ AreLegalFrom start (pairs ++ more) new
cut start pairs more old new legal = (
  λ on. record { each = All-append IsPair pairs more legal.each on.each; steps = sequences_compose.joined (market_of start) old new pairs more legal.steps on.steps },
  λ all.
      let apart = sequences_compose.apart (market_of start) new pairs more all.steps in
      let same = follows_once (market_of start) pairs apart.0 old apart.1 legal.steps in
      record { each = later IsPair pairs more all.each; steps = subst (λ (k : Market). Follows IsReadAs IsAdmissibleOutcome k more new) same apart.2 },
)

-- ---- their bytes

-- an entry at the start of bytes is one
entry_once : (a b : Pair Record Outcome) (x y : List ℕ) → IsPair a → IsPair b → pair_encoding a ++ x ≡ pair_encoding b ++ y → (a ≡ b) × (x ≡ y)
unfolding pair_encoding
entry_once a b x y p q e =
    let one = journals_readable.units.one (records_of a) (records_of b) x y (p.asked, p.answered) (q.asked, q.answered) e in
    (pair_is a b p q one.0, one.1)

entry_some : (a : Pair Record Outcome) → IsPair a → 0 < length (pair_encoding a)
unfolding pair_encoding
entry_some a p = journals_readable.units.some (records_of a) (p.asked, p.answered)

-- where entries begin others, these are entries more, and the rest are their bytes
entries_more : (p q : List (Pair Record Outcome)) (rest : List ℕ) → All IsPair p → All IsPair q → flat_map pair_encoding p ++ rest ≡ flat_map pair_encoding q → (more : List (Pair Record Outcome)) × (q ≡ p ++ more) × (rest ≡ flat_map pair_encoding more)
entries_more [] q rest a b e = (q, refl, e)
entries_more (v ∷ p) [] rest a b e =
    absurd (omega (arith, entry_some v (All-head IsPair v p a), ap length e, length-append (pair_encoding v ++ flat_map pair_encoding p) rest, length-append (pair_encoding v) (flat_map pair_encoding p)))
entries_more (v ∷ p) (w ∷ q) rest a b e =
    let one = entry_once v w (flat_map pair_encoding p ++ rest) (flat_map pair_encoding q) (All-head IsPair v p a) (All-head IsPair w q b) (sym (append_assoc (pair_encoding v) (flat_map pair_encoding p) rest) ∙ e) in
    let on = entries_more p q rest (All-tail IsPair v p a) (All-tail IsPair w q b) one.1 in
    (on.0, ap (λ (us : List (Pair Record Outcome)). w ∷ us) on.1 ∙ ap (λ (u : Pair Record Outcome). u ∷ (p ++ on.0)) (sym one.0), on.2)

-- ---- histories with bytes after them

-- The bytes are more valid entries, which lead on to this market.
record GoesOn (start : Start) (pairs : List (Pair Record Outcome)) (rest : List ℕ) (new : Market) : Type 0 where
  more : List (Pair Record Outcome)
  encoded : rest ≡ flat_map pair_encoding more
  legal : AreLegalFrom start (pairs ++ more) new

-- so it is where a history is read with them
goes_on : (limit : ℕ) (bytes rest : List ℕ) (start other : Start) (pairs all : List (Pair Record Outcome)) (new : Market) → CanStart start → All IsPair pairs → bytes ≡ encode_start start ++ (flat_map pair_encoding pairs ++ rest)
    → EncodesHistory limit bytes other all new → GoesOn start pairs rest new
goes_on limit bytes rest start other pairs all new begins each whole so =
    let one = one_start start other (flat_map pair_encoding pairs ++ rest) (flat_map pair_encoding all) begins so.begins (sym whole ∙ so.encoded) in
    let on = entries_more pairs all rest each so.legal.each one.1 in
    record {
      more = on.0;
      encoded = on.2;
      legal = subst (λ (us : List (Pair Record Outcome)). AreLegalFrom start us new) on.1 (subst (λ (s : Start). AreLegalFrom s all new) (sym one.0) so.legal);
    }

-- of what begins a history, and of entries, with the bytes of more entries
encoded_more : (start : Start) (pairs more : List (Pair Record Outcome)) (history rest : List ℕ) → history ≡ encode_start start ++ flat_map pair_encoding pairs → rest ≡ flat_map pair_encoding more → history ++ rest ≡ encode_start start ++ flat_map pair_encoding (pairs ++ more)
encoded_more start pairs more history rest a b =
    ap (λ (xs : List ℕ). xs ++ rest) a ∙ append_assoc (encode_start start) (flat_map pair_encoding pairs) rest
    ∙ ap (λ (xs : List ℕ). encode_start start ++ (flat_map pair_encoding pairs ++ xs)) b ∙ ap (λ (xs : List ℕ). encode_start start ++ xs) (sym (flat_map-append pair_encoding pairs more))

kept : (limit most within : ℕ) (history checkpoint rest text : List ℕ) (start : Start) (pairs : List (Pair Record Outcome)) (market : Market) → EncodesHistory within history start pairs market → IsCheckpoint market checkpoint
    → length (history ++ rest) ≤ limit → length (checkpoint ++ rest) ≤ most → ComesTo Checkpoint limit (history ++ rest) Done text ↔ ComesTo Checkpoint most (checkpoint ++ rest) Done text
kept limit most within history checkpoint rest text start pairs market so is_one here there =
    let begins : CanStart (Kept market) = subst (λ (xs : List ℕ). IsCheckpoint market xs) is_one.encoded is_one in (
      λ comes.
          let of = (checkpoints_of_histories.done limit (history ++ rest) text).0 comes in
          let whole : history ++ rest ≡ encode_start start ++ (flat_map pair_encoding pairs ++ rest) = ap (λ (xs : List ℕ). xs ++ rest) so.encoded ∙ append_assoc (encode_start start) (flat_map pair_encoding pairs) rest in
          let on = goes_on limit (history ++ rest) rest start of.0 pairs of.1 of.2 so.begins so.legal.each whole of.3 in
          (checkpoints_of_histories.done most (checkpoint ++ rest) text).1 (
            Kept market,
            on.more,
            of.2,
            record {
              begins = begins;
              legal = (cut start pairs on.more market of.2 so.legal).1 on.legal;
              encoded = ap (λ (xs : List ℕ). xs ++ rest) is_one.encoded ∙ ap (λ (xs : List ℕ). checkpoint_bytes market ++ xs) on.encoded;
              within = there;
            },
            of.4,
          ),
      λ comes.
          let of = (checkpoints_of_histories.done most (checkpoint ++ rest) text).0 comes in
          let on = goes_on most (checkpoint ++ rest) rest (Kept market) of.0 [] of.1 of.2 begins (All-nil IsPair) (ap (λ (xs : List ℕ). xs ++ rest) is_one.encoded) of.3 in
          (checkpoints_of_histories.done limit (history ++ rest) text).1 (
            start,
            pairs ++ on.more,
            of.2,
            record {
              begins = so.begins;
              legal = (cut start pairs on.more market of.2 so.legal).0 on.legal;
              encoded = encoded_more start pairs on.more history rest so.encoded on.encoded;
              within = here;
            },
            of.4,
          ),
    )

pub histories_go_on : HistoriesGoOn
histories_go_on = record { cut = cut; kept = kept }

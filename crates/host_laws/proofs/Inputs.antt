-- How an input begins, and the lines that it has: bytes have one beginning and one list of lines.
use Rattle.std.proofs.Common.{◌≡◌, inl, ℕ, List, ◌++◌, Option, Some, None, take, get_or, refl, sym, ap, subst, ◌∙◌, arith}
use Rattle.std.specs.Prelude.{⊤}
use Rattle.flow_io.specs.Streams.{Takes}
use Rattle.file_units.specs.Inputs.{known}
use Rattle.line_records.specs.Lines.{ended_by_feeds, AreLines}
use Rattle.line_records.proofs.Pieces.{lines_after}
use Rattle.line_records.proofs.OneSplits.{one_split}
use Rattle.market_snapshot.specs.Checkpoints.{checkpoint_bytes}
use Rattle.market_history.specs.Histories.{Start, Empty, Kept, CanStart}
use Rattle.market_history.proofs.Starting.{kept_magic}
use Rattle.journal_keeping.specs.Inputs.{BeginsUnsound}
use Rattle.journal_keeping.specs.declared.fault.InputFault.TheVariants.{NotFlow, BadCheckpoint}
use Rattle.desk_opening.specs.Beginnings.{bytes_before, BeginsWithNeither, NotBegun}
use Rattle.desk_opening.specs.Laws.{OneBeginning}
use Rattle.desk_keeping.specs.Hosting.{HasAllLines, HasFirstLines}

-- bytes begin so, and then have these lines, and perhaps a piece after the last line feed
pub record HasText (bytes : List ℕ) (begin : Start) (lines : List (List ℕ)) : Type 0 where
  pub starts : CanStart begin
  pub text : List ℕ
  pub whole : bytes ≡ bytes_before begin ++ text
  pub are : AreLines ⊤ text lines

-- all lines
pub text_all : (bytes : List ℕ) (begin : Start) (lines : List (List ℕ)) → HasAllLines bytes begin lines → HasText bytes begin lines
text_all bytes begin lines (last, has, piece) = record {
  starts = has.starts;
  text = ended_by_feeds lines ++ last;
  whole = has.whole;
  are = record { ended = lines; last = last; whole = refl; pieces = has.pieces; piece = piece; all = inl (refl, inl tt) };
}

-- the first lines, and those after them
pub text_first : (bytes : List ℕ) (begin : Start) (lines : List (List ℕ)) → HasFirstLines bytes begin lines → (more : List (List ℕ)) × HasText bytes begin (lines ++ more)
text_first bytes begin lines (last, has) =
    let text = ended_by_feeds lines ++ last in
    let all = lines_after ⊤ (inl tt) text last lines refl has.pieces in
    (all.0, record { starts = has.starts; text = text; whole = has.whole; are = all.1 })

-- bytes begin in one way, and have one list of lines
pub one_text : OneBeginning → (bytes : List ℕ) (v w : Start) (lines other : List (List ℕ)) → HasText bytes v lines → HasText bytes w other → (v ≡ w) × (lines ≡ other)
one_text one_beginning bytes v w lines other a b =
    let same = one_beginning v w a.text b.text a.starts b.starts (sym a.whole ∙ b.whole) in
    (same.0, one_split ⊤ b.text lines other (subst (λ (l : List ℕ). AreLines ⊤ l lines) same.1 a.are) b.are)

-- ---- an input without a beginning

no_neither : (begin : Start) (bytes text : List ℕ) → BeginsWithNeither bytes → bytes ≡ bytes_before begin ++ text → ⊥
no_neither (Empty version) bytes text neither is = neither.1 version text is
no_neither (Kept market) bytes text neither is = neither.0 (kept_magic market bytes text is)

no_unsound : (begin : Start) (bytes text : List ℕ) → CanStart begin → BeginsUnsound bytes → bytes ≡ bytes_before begin ++ text → ⊥
no_unsound (Empty version) bytes text starts unsound is = omega (arith, ap (λ (l : List ℕ). get_or l 0 0) (sym is ∙ unsound.0.1))
no_unsound (Kept market) bytes text starts unsound is = unsound.1 market (checkpoint_bytes market) text starts is

pub not_neither : (bytes : List ℕ) (begin : Start) (lines : List (List ℕ)) → HasText bytes begin lines → BeginsWithNeither bytes → ⊥
not_neither bytes begin lines has neither = no_neither begin bytes has.text neither has.whole

pub not_unsound : (bytes : List ℕ) (begin : Start) (lines : List (List ℕ)) → HasText bytes begin lines → BeginsUnsound bytes → ⊥
not_unsound bytes begin lines has unsound = no_unsound begin bytes has.text has.starts unsound has.whole

-- what was taken of known bytes, and what is left of them
known_all : (bytes taken : List ℕ) (left : Option (List ℕ)) → Takes (Some bytes) left taken → known taken left ≡ bytes
known_all bytes taken None takes = absurd takes
known_all bytes taken (Some rest) takes = sym takes

pub begins_neither : (limit : ℕ) (bytes : List ℕ) (left : Option (List ℕ)) → NotBegun limit (Some bytes) left NotFlow → BeginsWithNeither (take limit bytes)
begins_neither limit bytes left (taken, takes, few, neither) = subst (λ (l : List ℕ). BeginsWithNeither (take limit l)) (known_all bytes taken left takes) neither

pub begins_unsound : (limit : ℕ) (bytes : List ℕ) (left : Option (List ℕ)) → NotBegun limit (Some bytes) left BadCheckpoint → BeginsUnsound (take limit bytes)
begins_unsound limit bytes left (taken, takes, few, unsound) = subst (λ (l : List ℕ). BeginsUnsound (take limit l)) (known_all bytes taken left takes) unsound

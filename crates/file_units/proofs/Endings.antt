-- How a reading ends depends only on whether the input has more.
use Rattle.std.proofs.Common.{◌↔◌, ℕ, List, inl, inr}
use Rattle.wire_records.specs.Reading.{Format, Ending, End, Torn, TooLong, EndsAs, ReadsOn}

ends_alike : {V U : Type 0} (format : Format V U) (P Q : Type 0) (rest : List ℕ) (place : ℕ) (ending : Ending) → (P ↔ Q) → EndsAs format P rest place ending → EndsAs format Q rest place ending
ends_alike format P Q rest place End same ends = (ends.0, λ q. ends.1 (same.1 q), ends.2)
ends_alike format P Q rest place TooLong same ends = (ends.0, same.0 ends.1)
ends_alike format P Q rest place (Torn n) same ends =
    (ends.0, elim ends.1 [ inl over ↦ inl over | inr short ↦ inr (λ q. short.0 (same.1 q), short.1) ])

pub reads_alike : {V U : Type 0} (format : Format V U) (P Q : Type 0) (place : ℕ) (bytes : List ℕ) (units : List U) (ending : Ending) → (P ↔ Q) → ReadsOn format place P bytes units ending → ReadsOn format place Q bytes units ending
reads_alike format P Q place bytes units ending same reads = record {
  rest = reads.rest;
  whole = reads.whole;
  each = reads.each;
  none = reads.none;
  ends = ends_alike format P Q reads.rest _ ending same reads.ends;
}

-- if the ending is the end of the input, it has no more
pub no_more_at_end : {V U : Type 0} (format : Format V U) (More : Type 0) (place : ℕ) (bytes : List ℕ) (units : List U) → ReadsOn format place More bytes units End → ¬ More
no_more_at_end format More place bytes units reads = reads.ends.1

-- Whether the input has more bytes may be said in another way.
use Rattle.std.proofs.Common.{◌+◌, ◌↔◌, ℕ, List, Ok, Err, length, inl, inr}
use Rattle.wire_records.specs.Grammars.{encode_all}
use Rattle.wire_records.specs.Reading.{Ending, End, EndsAs}
use Rattle.wire_records.specs.Reading as reading
use Rattle.word_driver.specs.declared.fault.Fault.TheVariants.{Read, Write, Memory, NotFlow, Torn, TooLong, Stopped}
use Rattle.word_driver.specs.Ended.{Ended}
use Rattle.word_driver.specs.Word.{Word, ComesOn, LacksOn, AtEnd, Halts}

module _ {U S B : Type 0} (w : Word U S B) (P Q : Type 0) (same : P ↔ Q) where
  ends_alike : (rest : List ℕ) (place : ℕ) (ending : Ending) → EndsAs w.format P rest place ending → EndsAs w.format Q rest place ending
  ends_alike rest place End ends = (ends.0, λ q. ends.1 (same.1 q), ends.2)
  ends_alike rest place reading.TooLong ends = (ends.0, same.0 ends.1)
  ends_alike rest place (reading.Torn n) ends =
      (ends.0, elim ends.1 [ inl over ↦ inl over | inr short ↦ inr (λ q. short.0 (same.1 q), short.1) ])

  at_end_alike : (place : ℕ) (rest : List ℕ) (ending : Ending) → AtEnd w P place rest ending → AtEnd w Q place rest ending
  at_end_alike place rest ending at = (at.0, ends_alike rest place ending at.1)

  halts_alike : (place : ℕ) (rest : List ℕ) (state : S) (ended : Ended B) (last : List ℕ) → Halts w P place rest state ended last → Halts w Q place rest state ended last
  halts_alike place rest state (Ok done) last halts = (at_end_alike place rest End halts.0, halts.1)
  halts_alike place rest state (Err (Torn n)) last halts = (at_end_alike place rest (reading.Torn n) halts.0, halts.1)
  halts_alike place rest state (Err TooLong) last halts = (at_end_alike place rest reading.TooLong halts.0, halts.1)
  halts_alike place rest state (Err (Stopped why)) last (inl at) = inl at
  halts_alike place rest state (Err (Stopped why)) last (inr halts) = inr (at_end_alike place rest End halts.0, halts.1)
  halts_alike place rest state (Err NotFlow) last halts = halts
  halts_alike place rest state (Err Read) last halts = halts
  halts_alike place rest state (Err Write) last halts = halts
  halts_alike place rest state (Err Memory) last halts = halts

  pub comes_on_alike : (place : ℕ) (bytes : List ℕ) (start : S) (ended : Ended B) (text : List ℕ) → ComesOn w P place bytes start ended text → ComesOn w Q place bytes start ended text
  comes_on_alike place bytes start ended text on = record {
    units = on.units;
    rest = on.rest;
    state = on.state;
    so_far = on.so_far;
    last = on.last;
    passes = on.passes;
    halts = halts_alike (place + length (encode_all w.format.units on.units)) on.rest on.state ended on.last on.halts;
    writes = on.writes;
  }

  pub lacks_on_alike : (place : ℕ) (bytes : List ℕ) (start : S) (text : List ℕ) → LacksOn w P place bytes start text → LacksOn w Q place bytes start text
  lacks_on_alike place bytes start text on = record {
    units = on.units;
    rest = on.rest;
    state = on.state;
    passes = on.passes;
    allocates = elim on.allocates [ inl at ↦ inl at | inr (at, allocates) ↦ inr (at_end_alike (place + length (encode_all w.format.units on.units)) on.rest End at, allocates) ];
  }

-- How many bytes show whether they begin with a record, or with one that states too long a body.
use Rattle.std.proofs.Common.{◌≡◌, ◌+◌, ◌-◌, ◌<◌, ◌≤◌, ◌^◌, ◌⊎◌, ℕ, List, ◌++◌, length, take, drop, inl, inr, append_assoc, sym, ap, ◌∙◌, arith}
use Rattle.std.proofs.lemmas.Bool.{cases_lt}
use Rattle.std.proofs.lemmas.List.{take-append-drop, length-take}
use Rattle.std.proofs.lemmas.List.Elements.{All-drop}
use Rattle.wire_records.specs.Records.{Record, AreBytes, head, encoding}
use Rattle.wire_records.specs.Grammars.{BeginsWith}
use Rattle.wire_records.specs.Formats.{records, StatesOver}
use Rattle.wire_fields.specs.Numbers.{unsigned}
use Rattle.wire_records.proofs.Fields.{prefix_number}

-- Five bytes are a tag and the length of a body.
record Stated (bytes : List ℕ) : Type 0 where
  tag : ℕ
  stated : ℕ
  rest : List ℕ
  byte : tag < 256
  fits : stated < 2 ^ 32
  are : AreBytes rest
  size : length bytes ≡ 5 + length rest
  whole : bytes ≡ head tag stated ++ rest

joined_head : (bytes middle rest : List ℕ) (tag n : ℕ) → bytes ≡ unsigned 1 tag ++ middle → middle ≡ unsigned 4 n ++ rest → bytes ≡ head tag n ++ rest
unfolding head
joined_head bytes middle rest tag n first second = first ∙ ap (λ xs. unsigned 1 tag ++ xs) second ∙ sym (append_assoc (unsigned 1 tag) (unsigned 4 n) rest)

stated_length : (bytes : List ℕ) → AreBytes bytes → 5 ≤ length bytes → Stated bytes
stated_length bytes are long =
    let first = prefix_number 1 (length bytes - 1) bytes (omega (arith, long)) are in
    let second = prefix_number 4 (length bytes - 5) first.1 (omega (arith, first.3, long)) first.4 in
    record {
      tag = first.0;
      stated = second.0;
      rest = second.1;
      byte = omega (arith, first.2);
      fits = omega (arith, second.2);
      are = second.4;
      size = omega (arith, second.3, long);
      whole = joined_head bytes first.1 second.1 first.0 second.0 first.5 second.5;
    }

-- if there are so many bytes, they begin with a record, or with one that states too long a body
pub record_or_over : (limit : ℕ) (bytes : List ℕ) → AreBytes bytes → 5 + limit ≤ length bytes → StatesOver limit bytes ⊎ ((first : Record) × (rest : List ℕ) × BeginsWith (records limit) bytes first rest × AreBytes rest)
unfolding encoding
record_or_over limit bytes are long =
    let s = stated_length bytes are (omega (arith, long)) in
    elim (cases_lt limit s.stated) [
      | inl over ↦ inl (s.stated, (s.fits, s.tag, s.byte, s.rest, s.whole), over)
      | inr not ↦
          let body = take s.stated s.rest in
          let size : length body ≡ s.stated = omega (arith, length-take s.stated s.rest, s.size, long, not) in
          let first : Record = record { tag = s.tag; body = body } in
          inr (
            first,
            drop s.stated s.rest,
            (
              record { tag = s.byte; body = omega (arith, size, not) },
              s.whole ∙ ap (λ n. head s.tag n ++ s.rest) (sym size) ∙ ap (λ xs. head s.tag (length body) ++ xs) (sym (take-append-drop s.stated s.rest))
                  ∙ sym (append_assoc (head s.tag (length body)) body (drop s.stated s.rest)),
            ),
            All-drop (λ b. b < 256) s.stated s.rest s.are,
          )
    ]

-- a length that is stated is stated whatever follows
pub over_stays : (limit : ℕ) (bytes more : List ℕ) → StatesOver limit bytes → StatesOver limit (bytes ++ more)
over_stays limit bytes more (n, states, above) =
    (n, (states.0, states.1, states.2, states.3 ++ more, ap (λ xs. xs ++ more) states.4 ∙ append_assoc (head states.1 n) states.3 more), above)

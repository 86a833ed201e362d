-- What first bytes of a history result in if more follow is what they result in when their number is the limit, whatever follows.
use Rattle.std.proofs.Common.{◌≡◌, ◌+◌, ◌<◌, ◌↔◌, ℕ, List, [], ◌∷◌, ◌++◌, Err, length, take, inl, inr, append-nil, length-append, refl, sym, ap, ◌∙◌, subst, arith}
use Rattle.std.proofs.Math.Seq.{take-append-add}
use Rattle.std.proofs.lemmas.List.{take_at}
use Rattle.wire_records.specs.Records.{Record}
use Rattle.wire_records.specs.Grammars.{encode_all}
use Rattle.wire_records.proofs.ReadingLaws.{none_in_none}
use Rattle.market_history.specs.Histories.{market_of, starts}
use Rattle.market_history.proofs.Starting.{too_few}
use Rattle.word_driver.specs.declared.fault.Fault.TheVariants.{NotFlow, TooLong}
use Rattle.word_driver.specs.Ended.{Ended}
use Rattle.word_driver.specs.Word.{Word, ComesOn}
use Rattle.word_driver.specs.Laws.{IsExact}
use Rattle.word_driver.proofs.Alike.{comes_on_alike}
use Rattle.history_words.specs.declared.stop.HistoryStop.{HistoryStop}
use Rattle.history_words.specs.Histories.{following, Beginning, ComesFrom, over_history_from}

module _ {S B : Type 0} (w : Word (Record × Record) S B) (begins : Beginning S) where
  comes_alike : (P Q : Type 0) → P ↔ Q → (bytes : List ℕ) (ended : Ended (HistoryStop B)) (text : List ℕ) → ComesFrom w begins bytes P ended text → ComesFrom w begins bytes Q ended text
  comes_alike P Q same bytes ended text (inl other) = inl other
  comes_alike P Q same bytes ended text (inr (inl unsound)) = inr (inl unsound)
  comes_alike P Q same bytes ended text (inr (inr (start, body, rest, begun, parts, inner, on, is))) =
      inr (inr (start, body, rest, begun, parts, inner, comes_on_alike w P Q same (length (starts.encode start)) body (begins.starts (market_of start)) inner rest on, is))

  more : (first : List ℕ) (next : ℕ) (following : List ℕ) → Unit {0} ↔ (length first < length (first ++ next ∷ following))
  more first next following = (λ _. omega (arith, length-append first (next ∷ following)), λ _. tt)

  pub history_if_more : (first : List ℕ) (next : ℕ) (following : List ℕ) (ended : Ended (HistoryStop B)) (text : List ℕ) → ComesFrom w begins first (Unit {0}) ended text → (over_history_from w begins).Comes (length first) (first ++ next ∷ following) ended text
  history_if_more first next following ended text comes =
      let all = first ++ next ∷ following in
      subst (λ (xs : List ℕ). ComesFrom w begins xs (length first < length all) ended text) (sym (take_at first (next ∷ following) (length first) refl))
      (comes_alike (Unit {0}) (length first < length all) (more first next following) first ended text comes)

  pub history_back : (first : List ℕ) (next : ℕ) (following : List ℕ) (ended : Ended (HistoryStop B)) (text : List ℕ) → (over_history_from w begins).Comes (length first) (first ++ next ∷ following) ended text → ComesFrom w begins first (Unit {0}) ended text
  history_back first next following ended text comes =
      let all = first ++ next ∷ following in
      let to = more first next following in
      comes_alike (length first < length all) (Unit {0}) (to.1, to.0) first ended text
      (subst (λ (xs : List ℕ). ComesFrom w begins xs (length first < length all) ended text) (take_at first (next ∷ following) (length first) refl) comes)

  -- what was written when memory ran out is what the bytes before result in if more follow
  pub history_begins : IsExact w → (limit : ℕ) (bytes : List ℕ) (text : List ℕ) → (over_history_from w begins).Lacks limit bytes text → (n : ℕ) × (over_history_from w begins).Begins limit bytes n text
  history_begins exact limit bytes text (inl (magic, none)) = (0, (Err NotFlow, inl (too_few [] (omega arith), refl, none)))
  history_begins exact limit bytes text (inr (inl opening)) = (0, (Err NotFlow, inl (too_few [] (omega arith), refl, opening.4)))
  history_begins exact limit bytes text (inr (inr (start, body, rest, begun, parts, on))) =
      let encode = starts.encode start in
      let encoded = encode_all w.format.units on.units in
      let prefix : take (length encoded) body ≡ encoded = ap (take (length encoded)) on.passes.whole ∙ take_at encoded on.rest (length encoded) refl in
      let all : take (length encode + length encoded) (take limit bytes) ≡ encode ++ take (length encoded) body = ap (take (length encode + length encoded)) begun.1 ∙ take-append-add encode body (length encoded) in
      let none : ComesOn w (Unit {0}) (length encode) (take (length encoded) body) (begins.starts (market_of start)) (Err TooLong) rest = record {
        units = on.units;
        rest = [];
        state = on.state;
        so_far = rest;
        last = [];
        passes = record { whole = prefix ∙ sym (append-nil encoded); each = on.passes.each; goes = on.passes.goes };
        halts = ((none_in_none w.format.units exact.readable.units, (exact.short, tt)), refl);
        writes = sym (append-nil rest);
      } in
      (length encode + length encoded, (Err TooLong, inr (inr (start, take (length encoded) body, rest, (begun.0, all), parts, Err TooLong, none, refl))))

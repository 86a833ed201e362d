-- Which lines the bytes of an input have, as far as they were read.
use Rattle.std.proofs.Common.{◌≡◌, ◌⊎◌, inl, inr, ℕ, ◌+◌, ◌-◌, ◌≤◌, ◌<◌, List, [], ◌∷◌, ◌++◌, Option, IfSome, length, length-append, take, sym, ap, subst, ◌∙◌, arith, append_assoc}
use Rattle.std.proofs.lemmas.List.{append-nil}
use Rattle.std.proofs.lemmas.Grind.{flat_map-append}
use Rattle.std.proofs.Math.Seq.{take-append_seam}
use Rattle.flow_io.specs.Streams.{Takes, TakesAtMost}
use Rattle.flow_io.specs.Windows.{WindowState}
use Rattle.flow_io.proofs.Reading.{Takes-more}
use Rattle.line_records.specs.Lines.{HasNoFeed, ended_by_feeds}
use Rattle.word_driver.specs.Does.{IsTaken}
use Rattle.market_history.specs.Histories.{Start}
use Rattle.journal_keeping.proofs.Magic.{at_most}
use Rattle.input_lines.specs.Finding.{FindsNextWithin, FindsNoFeed}
use Rattle.input_lines.specs.declared.lines.Next.{Next}
use Rattle.input_lines.specs.declared.lines.Next.TheVariants as next
use Rattle.desk_lines.specs.Hearing.{most_envelope}
use Rattle.desk_opening.specs.Beginnings.{bytes_before}
use Rattle.desk_keeping.specs.Hosting.{HasLines, HasAllLines, HasFirstLines, HasTakenBeginning}
use Rattle.desk_keeping.specs.Private.{HasGone}
use Rattle.desk_keeping.proofs.Unopened.{of_known, take_taken}

-- lines with their feeds, and one more
pub feeds_more : (lines : List (List ℕ)) (line : List ℕ) → ended_by_feeds (lines ++ line ∷ []) ≡ ended_by_feeds lines ++ (line ++ 10 ∷ [])
feeds_more lines line = flat_map-append (λ (piece : List ℕ). piece ++ 10 ∷ []) lines (line ∷ []) ∙ ap (λ (l : List ℕ). ended_by_feeds lines ++ l) (append-nil (line ++ 10 ∷ []))

module _ (begin : Start) (limit : ℕ) (w : WindowState) (content left : Option (List ℕ)) (read : List (List ℕ)) (gone : HasGone begin limit w content left read) where
  -- with bytes that were joined to those held
  pub joined_whole : (joined : List ℕ) → gone.taken ++ joined ≡ bytes_before begin ++ (ended_by_feeds read ++ (w.held ++ joined))
  joined_whole joined =
      ap (λ (l : List ℕ). l ++ joined) gone.whole ∙ append_assoc (bytes_before begin) (ended_by_feeds read ++ w.held) joined ∙ ap (λ (l : List ℕ). bytes_before begin ++ l) (append_assoc (ended_by_feeds read) w.held joined)

  joined_size : (joined : List ℕ) → length (gone.taken ++ joined) ≡ w.place + length (w.held ++ joined)
  joined_size joined = omega (
    arith,
    gone.place,
    ap length (joined_whole joined),
    length-append (bytes_before begin) (ended_by_feeds read ++ (w.held ++ joined)),
    length-append (ended_by_feeds read) (w.held ++ joined),
  )

  taken_few : length gone.taken ≤ limit
  taken_few = omega (arith, joined_size [], length-append gone.taken [], length-append w.held [], gone.is_open.within, gone.limited)

  -- they are the lines that were read, and what follows them
  has_lines : (joined bytes rest : List ℕ) → bytes ≡ (gone.taken ++ joined) ++ rest → HasLines bytes begin read ((w.held ++ joined) ++ rest)
  has_lines joined bytes rest is = record {
    starts = gone.starts;
    pieces = gone.pieces;
    whole = is ∙ ap (λ (l : List ℕ). l ++ rest) (joined_whole joined) ∙ append_assoc (bytes_before begin) (ended_by_feeds read ++ (w.held ++ joined)) rest
        ∙ ap (λ (l : List ℕ). bytes_before begin ++ l) (append_assoc (ended_by_feeds read) (w.held ++ joined) rest);
  }

  has_just : (joined bytes : List ℕ) → HasNoFeed (w.held ++ joined) → bytes ≡ gone.taken ++ joined → HasAllLines bytes begin read
  has_just joined bytes piece is = (
    w.held ++ joined,
    subst (λ (l : List ℕ). HasLines bytes begin read l) (append-nil (w.held ++ joined)) (has_lines joined bytes [] (is ∙ sym (append-nil (gone.taken ++ joined)))),
    piece,
  )

  -- the first lines of the input
  pub are_first : IfSome content (λ bytes. HasFirstLines (take limit bytes) begin read)
  are_first = of_known content left gone.taken gone.takes (λ bytes. HasFirstLines (take limit bytes) begin read) (λ bytes after so is.
      let spare : List ℕ = take (limit - length gone.taken) after in
      ((w.held ++ []) ++ spare, has_lines [] (take limit bytes) spare (take_taken limit bytes gone.taken after is taken_few ∙ ap (λ (l : List ℕ). l ++ spare) (sym (append-nil gone.taken)))))

  -- the beginning was taken, and perhaps more since
  begun_more : (more : List ℕ) (now : Option (List ℕ)) → Takes content now (gone.taken ++ more) → HasTakenBeginning limit content now
  begun_more more now takes = (
    begin,
    gone.starts,
    omega (arith, gone.place, gone.is_open.within, gone.limited),
    (ended_by_feeds read ++ w.held) ++ more,
    subst (λ (l : List ℕ). Takes content now l) (ap (λ (l : List ℕ). l ++ more) gone.whole ∙ append_assoc (bytes_before begin) (ended_by_feeds read ++ w.held) more) takes,
  )

  -- at most one byte past the limit was taken, and the beginning
  pub few_at : TakesAtMost content left (limit + 1) × HasTakenBeginning limit content left
  few_at = (
    at_most content left gone.taken (limit + 1) gone.takes (omega (arith, taken_few)),
    begun_more [] left (subst (λ (l : List ℕ). Takes content left l) (sym (append-nil gone.taken)) gone.takes),
  )

  module _ (new : WindowState) (now : Option (List ℕ)) where
    past_few : (found : Next) (finds : FindsNextWithin most_envelope w new left now found) → length finds.past ≤ 1
    past_few (next.Line size) finds = omega (arith, ap length finds.is.6)
    past_few next.Long finds = omega (arith, ap length finds.is.5)
    past_few next.Last finds = omega (arith, ap length finds.is.5)
    past_few next.LongLast finds = omega (arith, ap length finds.is.2)
    past_few next.End finds = omega (arith, ap length finds.is.1)
    past_few next.Limit finds = omega (arith, finds.is.1)

    pub few_found : (found : Next) → FindsNextWithin most_envelope w new left now found → TakesAtMost content now (limit + 1) × HasTakenBeginning limit content now
    few_found found finds =
        let takes = Takes-more content left now gone.taken (finds.joined ++ finds.past) gone.takes finds.takes in (
          at_most content now (gone.taken ++ (finds.joined ++ finds.past)) (limit + 1) takes
              (omega (arith, joined_size finds.joined, finds.within, gone.limited, past_few found finds, length-append gone.taken finds.joined, length-append gone.taken (finds.joined ++ finds.past), length-append finds.joined finds.past)),
          begun_more (finds.joined ++ finds.past) now takes,
        )

    pub few_unread : FindsNoFeed w left now → TakesAtMost content now (limit + 1) × HasTakenBeginning limit content now
    few_unread none =
        let takes = Takes-more content left now gone.taken none.joined gone.takes none.takes in (
          at_most content now (gone.taken ++ none.joined) (limit + 1) takes (omega (arith, joined_size none.joined, none.within, gone.limited)),
          begun_more none.joined now takes,
        )

    module _ (found : Next) (finds : FindsNextWithin most_envelope w new left now found) where
      found_takes : Takes content now (gone.taken ++ (finds.joined ++ finds.past))
      found_takes = Takes-more content left now gone.taken (finds.joined ++ finds.past) gone.takes finds.takes

      found_few : length (gone.taken ++ finds.joined) ≤ limit
      found_few = omega (arith, joined_size finds.joined, finds.within, gone.limited)

      -- the input has no other lines
      ended_whole : (piece : HasNoFeed (w.held ++ finds.joined)) → finds.past ≡ [] → IfSome now (λ rest. rest ≡ []) → IfSome content (λ bytes. HasAllLines bytes begin read × (length bytes ≤ limit))
      ended_whole piece none ended = of_known content now (gone.taken ++ (finds.joined ++ finds.past)) found_takes (λ bytes. HasAllLines bytes begin read × (length bytes ≤ limit)) (λ bytes after so is.
          let empty : after ≡ [] = subst (λ (o : Option (List ℕ)). IfSome o (λ (rest : List ℕ). rest ≡ [])) so ended in
          let all : bytes ≡ gone.taken ++ finds.joined =
          is ∙ ap (λ (l : List ℕ). (gone.taken ++ (finds.joined ++ finds.past)) ++ l) empty ∙ append-nil (gone.taken ++ (finds.joined ++ finds.past)) ∙ ap (λ (l : List ℕ). gone.taken ++ (finds.joined ++ l)) none
          ∙ ap (λ (l : List ℕ). gone.taken ++ l) (append-nil finds.joined)
          in
          (has_just finds.joined bytes piece all, omega (arith, ap length all, found_few)))

    -- all lines were read
    pub all_lines : (found : Next) → (found ≡ next.Last) ⊎ ((found ≡ next.LongLast) ⊎ (found ≡ next.End)) → FindsNextWithin most_envelope w new left now found → IfSome content (λ bytes. HasAllLines bytes begin read × (length bytes ≤ limit))
    all_lines next.Last is finds = ended_whole next.Last finds finds.is.4 finds.is.5 finds.is.7.1
    all_lines next.LongLast is finds = ended_whole next.LongLast finds finds.is.1 finds.is.2 finds.is.3.1
    all_lines next.End is finds = ended_whole next.End finds (λ has. absurd (omega (arith, has.1, ap length finds.is.0))) finds.is.1 finds.is.2.1
    all_lines (next.Line size) (inl is) finds = absurd cc
    all_lines (next.Line size) (inr (inl is)) finds = absurd cc
    all_lines (next.Line size) (inr (inr is)) finds = absurd cc
    all_lines next.Long (inl is) finds = absurd cc
    all_lines next.Long (inr (inl is)) finds = absurd cc
    all_lines next.Long (inr (inr is)) finds = absurd cc
    all_lines next.Limit (inl is) finds = absurd cc
    all_lines next.Limit (inr (inl is)) finds = absurd cc
    all_lines next.Limit (inr (inr is)) finds = absurd cc

    -- and nothing is left
    pub none_left : (found : Next) → (found ≡ next.Last) ⊎ ((found ≡ next.LongLast) ⊎ (found ≡ next.End)) → FindsNextWithin most_envelope w new left now found → IfSome now (λ rest. rest ≡ [])
    none_left next.Last is finds = finds.is.7.1
    none_left next.LongLast is finds = finds.is.3.1
    none_left next.End is finds = finds.is.2.1
    none_left (next.Line size) (inl is) finds = absurd cc
    none_left (next.Line size) (inr (inl is)) finds = absurd cc
    none_left (next.Line size) (inr (inr is)) finds = absurd cc
    none_left next.Long (inl is) finds = absurd cc
    none_left next.Long (inr (inl is)) finds = absurd cc
    none_left next.Long (inr (inr is)) finds = absurd cc
    none_left next.Limit (inl is) finds = absurd cc
    none_left next.Limit (inr (inl is)) finds = absurd cc
    none_left next.Limit (inr (inr is)) finds = absurd cc

    -- the input has more than the limit
    pub limit_lines : FindsNextWithin most_envelope w new left now next.Limit → IfSome content (λ bytes. HasAllLines (take limit bytes) begin read × (limit < length bytes))
    limit_lines finds = of_known content now (gone.taken ++ (finds.joined ++ finds.past)) (found_takes next.Limit finds) (λ bytes. HasAllLines (take limit bytes) begin read × (limit < length bytes)) (λ bytes after so is.
        let seen : List ℕ = gone.taken ++ finds.joined in
        let full : length seen ≡ limit = omega (arith, joined_size finds.joined, finds.is.2, gone.limited) in
        let parts : bytes ≡ seen ++ (finds.past ++ after) = is ∙ ap (λ (l : List ℕ). l ++ after) (sym (append_assoc gone.taken finds.joined finds.past)) ∙ append_assoc seen finds.past after in
        let first : take limit bytes ≡ seen = ap (take limit) parts ∙ ap (λ (n : ℕ). take n (seen ++ (finds.past ++ after))) (sym full) ∙ take-append_seam seen (finds.past ++ after) in (
          has_just finds.joined (take limit bytes) finds.is.0 first,
          omega (arith, ap length parts, length-append seen (finds.past ++ after), length-append finds.past after, full, finds.is.1),
        ))

    -- a read failed
    pub read_lines : FindsNoFeed w left now → IfSome content (λ bytes. (n : ℕ) × IsTaken bytes now n × (n ≤ limit) × HasAllLines (take n bytes) begin read)
    read_lines none = of_known content now (gone.taken ++ none.joined) (Takes-more content left now gone.taken none.joined gone.takes none.takes) (λ bytes. (n : ℕ) × IsTaken bytes now n × (n ≤ limit) × HasAllLines (take n bytes) begin read) (λ bytes after so is.
        let seen : List ℕ = gone.taken ++ none.joined in
        let size : length seen + length after ≡ length bytes = omega (arith, ap length is, length-append seen after) in
        let first : take (length seen) bytes ≡ seen = ap (take (length seen)) is ∙ take-append_seam seen after in (
          length seen,
          subst (λ (o : Option (List ℕ)). IsTaken bytes o (length seen)) (sym so) size,
          omega (arith, joined_size none.joined, none.within, gone.limited),
          has_just none.joined (take (length seen) bytes) none.piece first,
        ))

-- A window over the lines of an input, from one line to the next.
use Rattle.std.proofs.Common.{◌≡◌, ℕ, ◌+◌, ◌<◌, List, [], ◌∷◌, ◌++◌, Option, IfSome, length, length-append, take, drop, refl, sym, ap, subst, ◌∙◌, arith, append_assoc, length-drop}
use Rattle.std.proofs.lemmas.List.{append-nil, length-take-le}
use Rattle.std.proofs.lemmas.List.Elements.{All-push}
use Rattle.flow_io.specs.Streams.{Takes}
use Rattle.flow_io.specs.Windows.{WindowState}
use Rattle.flow_io.proofs.Reading.{Takes-more}
use Rattle.line_records.specs.Lines.{HasNoFeed, ended_by_feeds}
use Rattle.market_history.specs.Histories.{Start}
use Rattle.input_lines.specs.Finding.{FindsNextWithin}
use Rattle.input_lines.specs.declared.lines.Next.TheVariants as next
use Rattle.desk_lines.specs.Hearing.{most_envelope}
use Rattle.desk_opening.specs.Beginnings.{bytes_before}
use Rattle.desk_keeping.specs.Hosting.{HasFirstLines}
use Rattle.desk_keeping.specs.Private.{HasGone}
use Rattle.desk_keeping.proofs.Reaching.{feeds_more, are_first, joined_whole}

-- bytes of one line more, and what follows it
line_more : (begin : Start) (read : List (List ℕ)) (line rest : List ℕ) → bytes_before begin ++ (ended_by_feeds read ++ (line ++ 10 ∷ rest)) ≡ bytes_before begin ++ (ended_by_feeds (read ++ line ∷ []) ++ rest)
line_more begin read line rest =
    ap (λ (l : List ℕ). bytes_before begin ++ l)
    (ap (λ (l : List ℕ). ended_by_feeds read ++ l) (sym (append_assoc line (10 ∷ []) rest)) ∙ sym (append_assoc (ended_by_feeds read) (line ++ 10 ∷ []) rest) ∙ ap (λ (l : List ℕ). l ++ rest) (sym (feeds_more read line)))

-- as many bytes as the line has, and its line feed
feeds_size : (read : List (List ℕ)) (line : List ℕ) → length (ended_by_feeds (read ++ line ∷ [])) ≡ length (ended_by_feeds read) + (length line + 1)
feeds_size read line = omega (arith, ap length (feeds_more read line), length-append (ended_by_feeds read) (line ++ 10 ∷ []), length-append line (10 ∷ []))

module _ (begin : Start) (limit : ℕ) (w : WindowState) (content left : Option (List ℕ)) (read : List (List ℕ)) (gone : HasGone begin limit w content left read) where
  -- a line was found
  pub gone_found : (new : WindowState) (now : Option (List ℕ)) (size : ℕ) → FindsNextWithin most_envelope w new left now (next.Line size) → HasGone begin limit new content now read
  gone_found new now size finds =
      let all : List ℕ = gone.taken ++ (finds.joined ++ finds.past) in
      let none : finds.joined ++ finds.past ≡ finds.joined = ap (λ (l : List ℕ). finds.joined ++ l) finds.is.6 ∙ append-nil finds.joined in
      record {
        starts = gone.starts;
        taken = gone.taken ++ finds.joined;
        takes = subst (λ (l : List ℕ). Takes content now (gone.taken ++ l)) none (Takes-more content left now gone.taken (finds.joined ++ finds.past) gone.takes finds.takes);
        pieces = gone.pieces;
        whole = joined_whole begin limit w content left read gone finds.joined ∙ ap (λ (l : List ℕ). bytes_before begin ++ (ended_by_feeds read ++ l)) (sym finds.is.0);
        place = finds.is.1 ∙ gone.place;
        limited = finds.limit ∙ gone.limited;
        is_open = finds.is.7;
      }

  -- a line was passed over
  pub gone_long : (new : WindowState) (now : Option (List ℕ)) → FindsNextWithin most_envelope w new left now next.Long → (line : List ℕ) × (most_envelope < length line) × HasGone begin limit new content now (read ++ line ∷ [])
  gone_long new now finds =
      let line : List ℕ = finds.is.0 in
      let none : finds.joined ++ finds.past ≡ finds.joined = ap (λ (l : List ℕ). finds.joined ++ l) finds.is.5 ∙ append-nil finds.joined in (
        line,
        finds.is.1,
        record {
          starts = gone.starts;
          taken = gone.taken ++ finds.joined;
          takes = subst (λ (l : List ℕ). Takes content now (gone.taken ++ l)) none (Takes-more content left now gone.taken (finds.joined ++ finds.past) gone.takes finds.takes);
          pieces = All-push HasNoFeed read line gone.pieces finds.is.2;
          whole = joined_whole begin limit w content left read gone finds.joined ∙ ap (λ (l : List ℕ). bytes_before begin ++ (ended_by_feeds read ++ l)) finds.is.3 ∙ line_more begin read line new.held;
          place = omega (arith, finds.is.4, gone.place, feeds_size read line);
          limited = finds.limit ∙ gone.limited;
          is_open = finds.is.6;
        },
      )

  -- a line that the window holds
  module _ (size : ℕ) (few : size < length w.held) (piece : HasNoFeed (take size w.held)) (parts : w.held ≡ take size w.held ++ 10 ∷ drop (size + 1) w.held) where
    -- was given up
    pub gone_line : (new : WindowState) → new ≡ record w { held = drop (size + 1) w.held; place = w.place + (size + 1) } → HasGone begin limit new content left (read ++ take size w.held ∷ [])
    gone_line new is =
        let line : List ℕ = take size w.held in
        let line_size : length line ≡ size = length-take-le size w.held (omega (arith, few)) in
        let held : new.held ≡ drop (size + 1) w.held = ap (λ (s : WindowState). s.held) is in
        let place : new.place ≡ w.place + (size + 1) = ap (λ (s : WindowState). s.place) is in
        record {
          starts = gone.starts;
          taken = gone.taken;
          takes = gone.takes;
          pieces = All-push HasNoFeed read line gone.pieces piece;
          whole = gone.whole ∙ ap (λ (l : List ℕ). bytes_before begin ++ (ended_by_feeds read ++ l)) (parts ∙ ap (λ (l : List ℕ). line ++ 10 ∷ l) (sym held)) ∙ line_more begin read line new.held;
          place = omega (arith, place, gone.place, feeds_size read line, line_size);
          limited = ap (λ (s : WindowState). s.limit) is ∙ gone.limited;
          is_open = record {
            room = ap (λ (s : WindowState). s.room) is ∙ gone.is_open.room;
            unlimited = λ e. gone.is_open.unlimited (sym (ap (λ (s : WindowState). s.over) is) ∙ e);
            ended = λ e. gone.is_open.ended (sym (ap (λ (s : WindowState). s.over) is) ∙ e);
            within = omega (arith, gone.is_open.within, place, ap (λ (s : WindowState). s.limit) is, ap length held, length-drop (size + 1) w.held, few);
          };
        }

    -- is one of the first lines of the input
    pub are_next : IfSome content (λ bytes. HasFirstLines (take limit bytes) begin (read ++ take size w.held ∷ []))
    are_next =
        let new : WindowState = record w { held = drop (size + 1) w.held; place = w.place + (size + 1) } in
        are_first begin limit new content left (read ++ take size w.held ∷ []) (gone_line new refl)

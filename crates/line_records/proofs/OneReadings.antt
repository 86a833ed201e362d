-- A text has one reading.
use Rattle.std.proofs.Common.{◌≡◌, ◌+◌, ℕ, List, [], ◌∷◌, ◌++◌, ◌⊎◌, inl, inr, Option, Some, None, length, append-nil, refl, sym, ap, ◌∙◌}
use Rattle.std.proofs.lemmas.List.{append_cancel_left}
use Rattle.wire_records.specs.Commands.{Command}
use Rattle.wire_records.proofs.CodeLaws.{parted}
use Rattle.wire_records.specs.declared.version.Version.{Version}
use Rattle.line_records.specs.Lines.{AreRead, AreFirst, HaveNext, StopsAtLine}
use Rattle.line_records.specs.Laws.{OneReading, NoneIsUnread, FirstIsAPrefix}
use Rattle.line_records.proofs.Pieces.{ended_lines, ended_code, piece_from_none, all_lines}
use Rattle.line_records.proofs.Saying.{Stops, goes_on, stop_alike, none_is_unstopped}
use Rattle.line_records.proofs.OneSplits.{one_split}

-- the number of the next line, if there is one
abbrev number_of : List (List ℕ) → List (List ℕ) → Option ℕ
number_of read [] = None
number_of read (bad ∷ more) = Some (length read + 1)

module _ (version : Version) (known : List (List ℕ)) where
  -- The lines after those that were read.
  record HasRest (tickers read lines : List (List ℕ)) (bad : Option ℕ) : Type 0 where
    more : List (List ℕ)
    all : lines ≡ read ++ more
    stops : Stops version tickers more
    number : bad ≡ number_of read more

  -- the rest of the lines that `StopsAt` speaks of
  rest_of : (tickers read lines : List (List ℕ)) (bad : Option ℕ) → StopsAtLine version tickers read lines bad → HasRest tickers read lines bad
  rest_of tickers read lines None is = record { more = []; all = is ∙ sym (append-nil read); stops = tt; number = refl }
  rest_of tickers read lines (Some number) at = record { more = at.0 ∷ at.1; all = at.2; stops = at.3; number = ap Some at.4 }

  -- a rest of the lines makes `StopsAt`
  stops_at : (tickers read lines more : List (List ℕ)) → lines ≡ read ++ more → Stops version tickers more → StopsAtLine version tickers read lines (number_of read more)
  stops_at tickers read lines [] all stops = all ∙ append-nil read
  stops_at tickers read lines (bad ∷ more) all stops = (bad, more, all, stops, refl)

  -- two readings of one list of lines stop at the same line
  pub one_reading : (More : Type 0) → OneReading version known More
  one_reading More bytes bad other commands others a b =
      let x = rest_of a.tickers a.read a.lines bad a.stops in
      let y = rest_of b.tickers b.read b.lines other b.stops in
      let same = sym x.all ∙ one_split More bytes a.lines b.lines a.split b.split ∙ y.all in
      let alike = stop_alike version known a.read x.more b.read y.more commands others a.tickers b.tickers same a.say b.say x.stops y.stops in
      let more = append_cancel_left b.read x.more y.more (ap (λ xs. xs ++ x.more) (sym alike.0) ∙ same) in
      (x.number ∙ ap (λ xs. number_of xs x.more) alike.0 ∙ ap (number_of b.read) more ∙ sym y.number, alike.1)

  -- the first lines don't go beyond the line where the reading stops
  pub first_is_a_prefix : (More : Type 0) → FirstIsAPrefix version known More
  first_is_a_prefix More bytes bad first commands a b =
      let y = rest_of b.tickers b.read b.lines bad b.stops in
      let on = goes_on version known a.read a.more b.read y.more first commands a.tickers b.tickers (sym a.prefix ∙ one_split More bytes a.lines b.lines a.split b.split ∙ y.all) a.say b.say y.stops in
      (on.asked, on.commands_are)

  -- the lines before one that isn't blank are first lines
  pub before_next : (More : Type 0) (bytes : List ℕ) (commands : List Command) → HaveNext version known More bytes commands → AreFirst version known More bytes commands
  before_next More bytes commands at = record { lines = at.lines; read = at.read; more = at.next ∷ at.more; tickers = at.tickers; split = at.split; prefix = at.prefix; say = at.say }

  -- if it is known whether there is more, there is a reading
  unread_where : (More : Type 0) (bytes : List ℕ) → ((bad : Option ℕ) (commands : List Command) → AreRead version known More bytes bad commands → ⊥) → More ⊎ (¬ More) → ⊥
  unread_where More bytes none more =
      let parts = parted ended_lines ended_code bytes in
      let all = all_lines More more bytes parts.values parts.rest parts.whole parts.each (piece_from_none parts.rest parts.none) in
      none_is_unstopped version known (parts.values ++ all.0) (λ so. none (number_of so.read so.more) so.commands (record {
        lines = parts.values ++ all.0;
        read = so.read;
        tickers = so.after;
        split = all.1;
        say = so.say;
        stops = stops_at so.after so.read (parts.values ++ all.0) so.more so.all so.stops;
      }))

  -- no text is without a reading
  pub none_is_unread : (More : Type 0) → NoneIsUnread version known More
  none_is_unread More bytes none =
      unread_where More bytes none (inr (λ more. unread_where More bytes none (inl more)))

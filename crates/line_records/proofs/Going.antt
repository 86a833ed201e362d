-- Going through the lines of a text: what was written so far, and how it ends.
use Rattle.std.proofs.Common.{◌≡◌, ◌≢◌, ◌+◌, ◌≤◌, ℕ, List, [], ◌∷◌, ◌++◌, ◌⊎◌, inl, inr, Bool, true, false, IsTrue, All, Option, Some, None, Result, Ok, Err, length, take, drop, length-append, length-drop, append_assoc, append-nil, drop-drop, eqb-true, eq-eqb, true≢false, ◌==◌, ◌-◌, refl, sym, ap, subst, ◌∙◌, arith}
use Rattle.std.proofs.lemmas.List.{flat_map_more}
use Rattle.std.proofs.lemmas.Grind.{flat_map-append}
use Rattle.std.proofs.lemmas.List.Elements.{All-push}
use Rattle.memchr.specs.Find.{IsFirstByte, is_byte}
use Rattle.flow_io.specs.Streams.{Grows}
use Rattle.wire_records.specs.Records.{encoding}
use Rattle.wire_records.specs.Commands.{Command}
use Rattle.wire_records.specs.CommandRecords.{record_of}
use Rattle.line_records.specs.declared.encode.EncodeFault.{EncodeFault}
use Rattle.line_records.specs.declared.encode.EncodeFault.TheVariants.{NoCommand, Write, Memory}
use Rattle.line_records.specs.Lines.{HasNoFeed, ended_by_feeds, AreLines, Say, encode_commands}
use Rattle.line_records.specs.Encoded.{HasEncoded, IsEncoded}
use Rattle.line_records.specs.Private.{EncodesLine, IsLineEncoded, IsRecordWritten, AreWritten}
use Rattle.flow_io.proofs.Growth.{Grows-more, GrowsByPrefix-more}
use Rattle.line_records.proofs.Pieces.{ended_lines, line_found, no_line_found, lines_after, told}
use Rattle.line_records.proofs.Saying.{say_more, no_more}
use Rattle.wire_records.specs.declared.version.Version.{Version}
use Rattle.order_text.specs.Lines.{Asked, Alone, commands_of, Says}

-- the size of a slice from a place on
pub slice_size : (place size : ℕ) → place + size - place ≡ size
slice_size place size = omega arith

-- a list that a test finds empty is empty
pub empty_where : (xs : List ℕ) (empty : Bool) → empty ≡ (length xs == 0) → empty ≡ true → xs ≡ []
empty_where xs empty is yes_is = no_more xs (eqb-true (length xs) 0 (sym is ∙ yes_is))

-- a list that a test finds not empty isn't
pub some_where : (xs : List ℕ) (empty : Bool) → empty ≡ (length xs == 0) → empty ≡ false → xs ≢ []
some_where xs empty is no_is none = true≢false (sym (eq-eqb (length xs) 0 (ap length none)) ∙ sym is ∙ no_is)

-- what is `false` isn't true
pub not_where : (more : Bool) → more ≡ false → ¬ IsTrue more
not_where more no_is is = true≢false (sym is ∙ no_is)

-- records of more commands
records_more : (commands more : List Command) → encode_commands (commands ++ more) ≡ encode_commands commands ++ encode_commands more
records_more commands more = flat_map-append (λ command. encoding (record_of command)) commands more

-- the text, with one line more of it that is ended
line_ended : (text : List ℕ) (place size : ℕ) (ended : List (List ℕ)) → text ≡ ended_by_feeds ended ++ drop place text → IsFirstByte (is_byte 10) (drop place text) (Some size)
    → text ≡ ended_by_feeds (ended ++ take size (drop place text) ∷ []) ++ drop (place + (size + 1)) text
line_ended text place size ended whole first =
    let line = take size (drop place text) in
    let found = line_found (drop place text) size first in
    whole ∙ ap (λ xs. ended_by_feeds ended ++ xs) (found.0.1 ∙ ap (λ xs. ended_lines.encode line ++ xs) (drop-drop (size + 1) place text))
    ∙ sym (append_assoc (ended_by_feeds ended) (ended_lines.encode line) (drop (place + (size + 1)) text))
    ∙ ap (λ xs. xs ++ drop (place + (size + 1)) text) (flat_map_more ended_lines.encode [] ended line)

module _ (version : Version) where
  -- a line alone
  one_line : (tickers : List (List ℕ)) (line : List ℕ) (asked : Asked) (next : List (List ℕ)) → Says version tickers line asked next → Say version tickers (line ∷ []) (commands_of asked) next
  one_line tickers line asked next says = inr (asked, [], next, says, (refl, refl), sym (append-nil (commands_of asked)))

  -- a line whose commands were written
  pub commands_encoded : (tickers : List (List ℕ)) (line : List ℕ) (number : ℕ) (asked : Asked) (next : List (List ℕ)) (result : Result (Unit {0}) EncodeFault) (before after : Option (List ℕ)) → Says version tickers line asked next
      → AreWritten (commands_of asked) result before after → IsLineEncoded version tickers line number next result before after
  commands_encoded tickers line number asked next (Ok done) before after says is = record { commands = commands_of asked; say = one_line tickers line asked next says; written = is }
  commands_encoded tickers line number asked next (Err (NoCommand bad)) before after says is = absurd is
  commands_encoded tickers line number asked next (Err Write) before after says is = (asked, says, is)
  commands_encoded tickers line number asked next (Err Memory) before after says is = (says.asks.written, is)

  -- one record is that of one command
  alone_written : (command : Command) (result : Result (Unit {0}) EncodeFault) (before after : Option (List ℕ)) → IsRecordWritten command result before after → AreWritten (command ∷ []) result before after
  alone_written command (Ok done) before after is = rw (append-nil (encoding (record_of command))) is
  alone_written command (Err (NoCommand bad)) before after is = is
  alone_written command (Err Write) before after is = rw (append-nil (encoding (record_of command))) is
  alone_written command (Err Memory) before after is = is

  pub command_encoded : (tickers : List (List ℕ)) (line : List ℕ) (number : ℕ) (command : Command) (next : List (List ℕ)) (result : Result (Unit {0}) EncodeFault) (before after : Option (List ℕ)) → Says version tickers line (Alone command) next
      → IsRecordWritten command result before after → IsLineEncoded version tickers line number next result before after
  command_encoded tickers line number command next result before after says is =
      commands_encoded tickers line number (Alone command) next result before after says (alone_written command result before after is)

module _ (version : Version) (known : List (List ℕ)) where
  -- What going through the lines before a place of the text has done.
  pub record HasGone (text : List ℕ) (place number : ℕ) (tickers : List (List ℕ)) (before after : Option (List ℕ)) : Type 0 where
    pub ended : List (List ℕ)
    pub commands : List Command
    pub whole : text ≡ ended_by_feeds ended ++ drop place text
    pub pieces : All HasNoFeed ended
    pub say : Say version known ended commands tickers
    pub written : Grows before after (encode_commands commands)
    pub counted : number ≡ length ended + 1
    pub few : length ended ≤ place
    pub within : place ≤ length text

  -- one more line is encoded
  pub one_more : (text : List ℕ) (place size number : ℕ) (tickers next : List (List ℕ)) (before between after : Option (List ℕ)) → HasGone text place number tickers before between
      → IsFirstByte (is_byte 10) (drop place text) (Some size) → EncodesLine version tickers (take (place + size - place) (drop place text)) next between after → HasGone text (place + (size + 1)) (number + 1) next before after
  one_more text place size number tickers next before between after so first encoded =
      let line = take size (drop place text) in
      let found = line_found (drop place text) size first in
      let left = length-drop place text in
      let one = rw slice_size at encoded in
      record {
        ended = so.ended ++ line ∷ [];
        commands = so.commands ++ one.commands;
        whole = line_ended text place size so.ended so.whole first;
        pieces = All-push HasNoFeed so.ended line so.pieces found.0.0;
        say = say_more version known tickers next so.ended (line ∷ []) so.commands one.commands so.say one.say;
        written = rw (records_more so.commands one.commands) (Grows-more before between after (encode_commands so.commands) (encode_commands one.commands) so.written one.written);
        counted = omega (arith, so.counted, length-append so.ended (line ∷ []));
        few = omega (arith, so.few, length-append so.ended (line ∷ []));
        within = omega (arith, left, found.1, so.within);
      }

  module _ (More : Type 0) (text : List ℕ) (place number : ℕ) (tickers next : List (List ℕ)) (before between after : Option (List ℕ)) (so : HasGone text place number tickers before between) (line : List ℕ) (rest : List (List ℕ)) (split : AreLines More text (so.ended ++ line ∷ rest)) where
    -- the next line stopped it
    stopped : (fault : EncodeFault) → IsLineEncoded version tickers line number next (Err fault) between after → IsEncoded version known More text (Err fault) before after
    stopped (NoCommand bad) at = record {
      commands = so.commands;
      read = record {
        lines = so.ended ++ line ∷ rest;
        read = so.ended;
        tickers = tickers;
        split = split;
        say = so.say;
        stops = (line, rest, refl, at.0, at.1 ∙ so.counted);
      };
      written = rw at.2 so.written;
    }
    stopped Write at = (
      so.commands ++ commands_of at.0,
      record {
        lines = so.ended ++ line ∷ rest;
        read = so.ended ++ line ∷ [];
        more = rest;
        tickers = next;
        split = split;
        prefix = sym (append_assoc so.ended (line ∷ []) rest);
        say = say_more version known tickers next so.ended (line ∷ []) so.commands (commands_of at.0) so.say (one_line version tickers line at.0 next at.1);
      },
      rw (records_more so.commands (commands_of at.0)) (GrowsByPrefix-more before between after (encode_commands so.commands) (encode_commands (commands_of at.0)) so.written at.2),
    )
    stopped Memory at = (
      so.commands,
      record { lines = so.ended ++ line ∷ rest; read = so.ended; next = line; more = rest; tickers = tickers; split = split; prefix = refl; say = so.say; written = at.0 },
      rw at.1 so.written,
    )

    -- all lines were read, and this was the last
    all_read : rest ≡ [] → EncodesLine version tickers line next between after → HasEncoded version known More text None before after
    all_read none one = record {
      commands = so.commands ++ one.commands;
      read = record {
        lines = so.ended ++ line ∷ rest;
        read = so.ended ++ line ∷ [];
        tickers = next;
        split = split;
        say = say_more version known tickers next so.ended (line ∷ []) so.commands one.commands so.say one.say;
        stops = ap (λ xs. so.ended ++ line ∷ xs) none;
      };
      written = rw (records_more so.commands one.commands) (Grows-more before between after (encode_commands so.commands) (encode_commands one.commands) so.written one.written);
    }

  -- a line that is ended stopped it
  pub stopped_within : (more : Bool) (text : List ℕ) (place size number : ℕ) (tickers next : List (List ℕ)) (before between after : Option (List ℕ)) (fault : EncodeFault) → HasGone text place number tickers before between
      → IsFirstByte (is_byte 10) (drop place text) (Some size) → IsLineEncoded version tickers (take (place + size - place) (drop place text)) number next (Err fault) between after → IsEncoded version known (IsTrue more) text (Err fault) before after
  stopped_within more text place size number tickers next before between after fault so first at =
      let line = take size (drop place text) in
      let pieces = All-push HasNoFeed so.ended line so.pieces (line_found (drop place text) size first).0.0 in
      let following = lines_after (IsTrue more) (told more) text (drop (place + (size + 1)) text) (so.ended ++ line ∷ []) (line_ended text place size so.ended so.whole first) pieces in
      stopped (IsTrue more) text place number tickers next before between after so line following.0 (subst (λ lines. AreLines (IsTrue more) text lines) (append_assoc so.ended (line ∷ []) following.0) following.1) fault
      (subst (λ n. IsLineEncoded version tickers (take n (drop place text)) number next (Err fault) between after) (slice_size place size) at)

  -- there is no line after the last line feed
  pub ended_text : (more : Bool) (text : List ℕ) (place number : ℕ) (tickers : List (List ℕ)) (before after : Option (List ℕ)) → HasGone text place number tickers before after
      → IsFirstByte (is_byte 10) (drop place text) None → IsTrue more ⊎ (drop place text ≡ []) → IsEncoded version known (IsTrue more) text (Ok tt) before after
  ended_text more text place number tickers before after so none ends = record {
    commands = so.commands;
    read = record {
      lines = so.ended;
      read = so.ended;
      tickers = tickers;
      split = record {
        ended = so.ended;
        last = drop place text;
        whole = so.whole;
        pieces = so.pieces;
        piece = no_line_found (drop place text) none;
        all = inl (refl, ends);
      };
      say = so.say;
      stops = refl;
    };
    written = so.written;
  }

  -- the last line ended it
  pub last_line : (more : Bool) (text : List ℕ) (place number : ℕ) (tickers next : List (List ℕ)) (before between after : Option (List ℕ)) (result : Result (Unit {0}) EncodeFault) → HasGone text place number tickers before between
      → IsFirstByte (is_byte 10) (drop place text) None → (¬ IsTrue more) → drop place text ≢ [] → IsLineEncoded version tickers (drop place text) number next result between after
      → IsEncoded version known (IsTrue more) text result before after
  last_line more text place number tickers next before between after (Ok done) so none not some is =
      all_read (IsTrue more) text place number tickers next before between after so (drop place text) [] (record {
        ended = so.ended;
        last = drop place text;
        whole = so.whole;
        pieces = so.pieces;
        piece = no_line_found (drop place text) none;
        all = inr (refl, not, some);
      }) refl is
  last_line more text place number tickers next before between after (Err fault) so none not some is =
      stopped (IsTrue more) text place number tickers next before between after so (drop place text) [] (record {
        ended = so.ended;
        last = drop place text;
        whole = so.whole;
        pieces = so.pieces;
        piece = no_line_found (drop place text) none;
        all = inr (refl, not, some);
      }) fault is

-- What lines ask for, one after the other.
use Rattle.std.proofs.Common.{◌≡◌, ◌≢◌, ℕ, List, [], ◌∷◌, ◌++◌, inl, inr, Result, Ok, Err, length, length-append, append_assoc, append-nil, get_or, drop, map, refl, sym, ap, subst, ◌∙◌, arith}
use Rattle.wire_records.specs.Commands.{Command}
use Rattle.wire_records.specs.Views.{command_in}
use Rattle.wire_records.specs.declared.version.Version.{Version}
use Rattle.order_text.specs.declared.line.LineRead.{LineRead}
use Rattle.order_text.specs.declared.line.LineRead.TheVariants.{Blank, Asks, Many}
use Rattle.order_text.specs.declared.line.LineFault.{LineFault}
use Rattle.order_text.specs.declared.line.LineFault.TheVariants.{NoCommand, Memory}
use Rattle.order_text.specs.Lines.{IsBlank, Alone, OfLadder, commands_of, Leave, Says, SaysNothing}
use Rattle.order_text.specs.Answers.{IsLineRead, may_run_out}
use Rattle.order_text.proofs.OneAnswers.{one_saying, none_is_unanswered}
use Rattle.line_records.specs.Lines.{Say}

-- a list of no length is empty
pub no_more : {A : Type 0} (xs : List A) → length xs ≡ 0 → xs ≡ []
no_more [] none = refl
no_more (x ∷ xs) none = absurd (omega (arith, none))

-- the tickers that commands and then more commands leave
leaves_more : (version : Version) (first second third : List (List ℕ)) (commands more : List Command) → Leave version first commands second → Leave version second more third → Leave version first (commands ++ more) third
leaves_more version first second third [] more a b = subst (λ t. Leave version t more third) a b
leaves_more version first second third (command ∷ commands) more a b = (a.0, a.1, leaves_more version a.0 second third commands more a.2 b)

module _ (version : Version) where
  -- the tickers after lines are those after their commands
  pub lines_leave : (lines : List (List ℕ)) (commands : List Command) (tickers after : List (List ℕ)) → Say version tickers lines commands after → Leave version tickers commands after
  lines_leave [] commands tickers after say = rw say.0 say.1
  lines_leave (line ∷ lines) commands tickers after (inl blank) = lines_leave lines commands tickers after blank.1
  lines_leave (line ∷ lines) commands tickers after (inr said) =
      rw said.5 (leaves_more version tickers said.2 after (commands_of said.0) said.1 said.3.leaves (lines_leave lines said.1 said.2 after said.4))

  -- what lines and then more lines ask for
  pub say_more : (first second third : List (List ℕ)) (lines more : List (List ℕ)) (commands others : List Command) → Say version first lines commands second → Say version second more others third
      → Say version first (lines ++ more) (commands ++ others) third
  say_more first second third [] more commands others a b = rw (a.0, ← a.1) b
  say_more first second third (line ∷ lines) more commands others (inl a) b = inl (a.0, say_more first second third lines more commands others a.1 b)
  say_more first second third (line ∷ lines) more commands others (inr a) b =
      inr (a.0, a.1 ++ others, a.2, a.3, say_more a.2 second third lines more a.1 others a.4 b, ap (λ xs. xs ++ others) a.5 ∙ append_assoc (commands_of a.0) a.1 others)

  -- there is no further line, or the next one is no command
  abbrev pub Stops : List (List ℕ) → List (List ℕ) → Type 0
  Stops tickers [] = Unit {0}
  Stops tickers (line ∷ lines) = SaysNothing version tickers line

  -- a line that asks for nothing asks for no commands
  nothing_said : (tickers : List (List ℕ)) (line : List ℕ) (lines : List (List ℕ)) (commands : List Command) (after : List (List ℕ)) → SaysNothing version tickers line → Say version tickers (line ∷ lines) commands after → ⊥
  nothing_said tickers line lines commands after none (inl blank) = none.written blank.0
  nothing_said tickers line lines commands after none (inr says) = none.no_command says.0 says.3.asks

  -- Lines and their commands, and more of the same lines.
  pub record GoesOn (lines other : List (List ℕ)) (commands others : List Command) : Type 0 where
    pub rest : List (List ℕ)
    pub asked : List Command
    pub lines_are : other ≡ lines ++ rest
    pub commands_are : others ≡ commands ++ asked

  -- two first parts of one list of lines ask for the same as far as both go
  pub goes_on : (tickers : List (List ℕ)) (lines more other rest : List (List ℕ)) (commands others : List Command) (after next : List (List ℕ)) → lines ++ more ≡ other ++ rest
      → Say version tickers lines commands after → Say version tickers other others next → Stops next rest → GoesOn lines other commands others
  goes_on tickers [] more other rest commands others after next same a b stops =
      record { rest = other; asked = others; lines_are = refl; commands_are = rw a.0 refl }
  goes_on tickers (line ∷ lines) more [] [] commands others after next same a b stops = absurd (omega (arith, ap length same))
  goes_on tickers (line ∷ lines) more [] (bad ∷ rest) commands others after next same a b stops =
      let bad_is : line ≡ bad = ap (λ xs. get_or xs 0 []) same in
      absurd (nothing_said tickers line lines commands after (rw (bad_is, ← b.1) stops) a)
  goes_on tickers (line ∷ lines) more (first ∷ other) rest commands others after next same (inl a) (inl b) stops =
      let first_is : line ≡ first = ap (λ xs. get_or xs 0 []) same in
      let on = goes_on tickers lines more other rest commands others after next (ap (drop 1) same) a.1 b.1 stops in
      record { rest = on.rest; asked = on.asked; lines_are = ap (λ l. l ∷ other) (sym first_is) ∙ ap (λ xs. line ∷ xs) on.lines_are; commands_are = on.commands_are }
  goes_on tickers (line ∷ lines) more (first ∷ other) rest commands others after next same (inl a) (inr b) stops =
      let first_is : line ≡ first = ap (λ xs. get_or xs 0 []) same in
      absurd (b.3.asks.written (subst IsBlank first_is a.0))
  goes_on tickers (line ∷ lines) more (first ∷ other) rest commands others after next same (inr a) (inl b) stops =
      let first_is : line ≡ first = ap (λ xs. get_or xs 0 []) same in
      absurd (a.3.asks.written (subst IsBlank (sym first_is) b.0))
  goes_on tickers (line ∷ lines) more (first ∷ other) rest commands others after next same (inr a) (inr b) stops =
      let first_is : line ≡ first = ap (λ xs. get_or xs 0 []) same in
      let one = one_saying version tickers first a.0 b.0 a.2 b.2 (subst (λ l. Says version tickers l a.0 a.2) first_is a.3) b.3 in
      let on = goes_on b.2 lines more other rest a.1 b.1 after next (ap (drop 1) same) (subst (λ t. Say version t lines a.1 after) one.1 a.4) b.4 stops in
      record {
        rest = on.rest;
        asked = on.asked;
        lines_are = ap (λ l. l ∷ other) (sym first_is) ∙ ap (λ xs. line ∷ xs) on.lines_are;
        commands_are = b.5 ∙ ap (λ asked. commands_of asked ++ b.1) (sym one.0) ∙ ap (λ xs. commands_of a.0 ++ xs) on.commands_are ∙ sym (append_assoc (commands_of a.0) a.1 on.asked) ∙ ap (λ xs. xs ++ on.asked) (sym a.5);
      }

  -- two that both stop are the same
  pub stop_alike : (known lines more other rest : List (List ℕ)) (commands others : List Command) (after next : List (List ℕ)) → lines ++ more ≡ other ++ rest
      → Say version known lines commands after → Say version known other others next → Stops after more → Stops next rest → (lines ≡ other) × (commands ≡ others)
  stop_alike known lines more other rest commands others after next same a b stops ends =
      let on = goes_on known lines more other rest commands others after next same a b ends in
      let back = goes_on known other rest lines more others commands next after (sym same) b a stops in
      let none : on.rest ≡ [] = no_more on.rest (omega (arith, ap length on.lines_are, ap length back.lines_are, length-append lines on.rest, length-append other back.rest)) in
      let no : on.asked ≡ [] = no_more on.asked (omega (arith, ap length on.commands_are, ap length back.commands_are, length-append commands on.asked, length-append others back.asked)) in
      (sym (on.lines_are ∙ ap (λ xs. lines ++ xs) none ∙ append-nil lines), sym (on.commands_are ∙ ap (λ xs. commands ++ xs) no ∙ append-nil commands))

  -- The first lines were read, up to one that is no command, or all.
  pub record HasStopped (tickers lines : List (List ℕ)) : Type 0 where
    pub read : List (List ℕ)
    pub more : List (List ℕ)
    pub commands : List Command
    pub after : List (List ℕ)
    pub all : lines ≡ read ++ more
    pub say : Say version tickers read commands after
    pub stops : Stops after more

  -- one more line before the others, by its answer
  stopped_more : (tickers : List (List ℕ)) (line : List ℕ) (lines after : List (List ℕ)) (result : Result LineRead LineFault) → result ≢ may_run_out → IsLineRead version tickers line after result → HasStopped after lines
      → HasStopped tickers (line ∷ lines)
  stopped_more tickers line lines after (Ok Blank) told is so = record {
    read = line ∷ so.read;
    more = so.more;
    commands = so.commands;
    after = so.after;
    all = ap (λ xs. line ∷ xs) so.all;
    say = inl (is.0, subst (λ t. Say version t so.read so.commands so.after) is.1 so.say);
    stops = so.stops;
  }
  stopped_more tickers line lines after (Ok (Asks command)) told is so = record {
    read = line ∷ so.read;
    more = so.more;
    commands = command_in command ∷ so.commands;
    after = so.after;
    all = ap (λ xs. line ∷ xs) so.all;
    say = inr (Alone (command_in command), so.commands, after, is, so.say, refl);
    stops = so.stops;
  }
  stopped_more tickers line lines after (Ok (Many commands)) told is so = record {
    read = line ∷ so.read;
    more = so.more;
    commands = map command_in commands ++ so.commands;
    after = so.after;
    all = ap (λ xs. line ∷ xs) so.all;
    say = inr (OfLadder (map command_in commands), so.commands, after, is, so.say, refl);
    stops = so.stops;
  }
  stopped_more tickers line lines after (Err NoCommand) told is so = record {
    read = [];
    more = line ∷ lines;
    commands = [];
    after = tickers;
    all = refl;
    say = (refl, refl);
    stops = is.0;
  }
  stopped_more tickers line lines after (Err Memory) told is so = absurd (told refl)

  -- lines are not without a stop
  pub none_is_unstopped : (tickers lines : List (List ℕ)) → (HasStopped tickers lines → ⊥) → ⊥
  none_is_unstopped tickers [] none = none (record { read = []; more = []; commands = []; after = tickers; all = refl; say = (refl, refl); stops = tt })
  none_is_unstopped tickers (line ∷ lines) none =
      none_is_unanswered version tickers line (λ after result told is. none_is_unstopped after lines (λ so. none (stopped_more tickers line lines after result told is so)))

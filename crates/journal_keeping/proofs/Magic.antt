-- A source that is opened, and read past its magic.
use Rattle.std.proofs.Common.{◌≡◌, ◌↔◌, inl, ℕ, ◌+◌, ◌-◌, ◌≤◌, ◌<◌, List, [], ◌++◌, Option, Some, None, IfSome, length, take, drop, refl, sym, ap, subst, ◌∙◌, arith, append-nil, length-append, length-take, length-drop, take-append-drop}
use Rattle.std.proofs.lemmas.List.{take_at, drop_at, take-append-le}
use Rattle.flow_io.specs.Streams.{Takes, TakesAtMost}
use Rattle.flow_io.specs.Windows.{WindowState, Fills, IsPast, IsWithin, empty_window}
use Rattle.flow_io.specs.declared.window.InputEnd.{InputEnd}
use Rattle.flow_io.specs.declared.window.InputEnd.TheVariants.{Source, Limit}
use Rattle.wire_records.specs.Grammars.{BeginsWith, BeginsWithNone}
use Rattle.wire_records.specs.Formats.{commands, command_magic_of}
use Rattle.wire_records.proofs.RecordCode.{eight}
use Rattle.wire_records.specs.declared.version.Version.{Version}
use Rattle.word_driver.specs.Does.{IsTaken}
use Rattle.market_history.specs.Histories.{Empty}
use Rattle.file_units.proofs.Gone.{considered, within_limit}
use Rattle.journal_keeping.specs.Starts.{source_start, sources, IsUnbegun}
use Rattle.journal_keeping.specs.Taking.{IsNoSource}
use Rattle.journal_keeping.specs.Beginning.{IsAfterSource}
use Rattle.journal_keeping.proofs.Starts.{input_long, magic_long}

-- so many bytes were taken, which have no whole beginning of a source
abbrev pub BreaksOffEarly : ℕ → Option (List ℕ) → List ℕ → Type 0
BreaksOffEarly limit left bytes = (n : ℕ) × IsTaken bytes left n × IsUnbegun n (take n (take limit bytes))

-- fewer than eight bytes have no magic
pub short_has_none : (version : Version) (bytes body : List ℕ) → length bytes < 8 → ¬ BeginsWith commands.magics bytes version body
short_has_none version bytes body few begins = omega (arith, few, eight version, ap length begins.1, length-append (command_magic_of version) body)

-- what begins with a magic has it in its first eight bytes
pub prefix_has : (version : Version) (held more body : List ℕ) → 8 ≤ length held → held ++ more ≡ command_magic_of version ++ body → BeginsWith commands.magics held version (drop 8 held)
prefix_has version held more body some is =
    let prefix : take 8 held ≡ command_magic_of version = sym (take-append-le 8 held more some) ∙ ap (take 8) is ∙ take_at (command_magic_of version) body 8 (eight version) in
    (tt, sym (take-append-drop 8 held) ∙ ap (λ (l : List ℕ). l ++ drop 8 held) prefix)

-- fewer than eight bytes begin no source
pub short_no_input : (bytes : List ℕ) → length bytes < 8 → BeginsWithNone sources.magics bytes
short_no_input bytes few input rest lawful e = omega (arith, few, input_long input, ap length e, length-append (source_start input) rest)

none_of_short : (wanted : Option Version) (bytes : List ℕ) → length bytes < 8 → IsNoSource wanted bytes
none_of_short None bytes few = (short_no_input bytes few, λ unsound. omega (arith, few, magic_long bytes unsound.0))
none_of_short (Some own) bytes few = λ body begins. short_has_none own bytes body few begins

none_of_more : (own : Version) (held more : List ℕ) → 8 ≤ length held → IsNoSource (Some own) held → IsNoSource (Some own) (held ++ more)
none_of_more own held more some none = λ body begins. none (drop 8 held) (prefix_has own held more body some begins.1)

-- the version that was found isn't this one
pub none_found : (found own : Version) (held : List ℕ) → ((v : Version) → (◌≡◌ {A = Option Version} (Some found) (Some v)) ↔ ((body : List ℕ) × BeginsWith commands.magics held v body)) → (¬ (found ≡ own)) → IsNoSource (Some own) held
none_found found own held exact other = λ body begins. other (some_same found own ((exact own).1 (body, begins)))
  where
    some_same : (v w : Version) → ◌≡◌ {A = Option Version} (Some v) (Some w) → v ≡ w
    some_same v w e = cc

not_limit : ◌≡◌ {A = Option InputEnd} None (Some Limit) → ⊥
not_limit e = absurd cc

source_no_limit : ◌≡◌ {A = Option InputEnd} (Some Source) (Some Limit) → ⊥
source_no_limit e = absurd cc

-- how many bytes were taken
pub at_most : (before after : Option (List ℕ)) (bytes : List ℕ) (most : ℕ) → Takes before after bytes → length bytes ≤ most → TakesAtMost before after most
at_most None after bytes most takes few = tt
at_most (Some b) None bytes most takes few = absurd takes
at_most (Some b) (Some a) bytes most takes few = omega (arith, ap length takes, length-append bytes a, few)

pub none_taken : (content : Option (List ℕ)) (most : ℕ) → TakesAtMost content content most
none_taken None most = tt
none_taken (Some bytes) most = omega arith

-- ---- a new window was filled

module _ (limit : ℕ) (filled : WindowState) (before after : Option (List ℕ)) (fills : Fills (empty_window 1029 limit) filled before after) (inside : IsWithin filled.place (length filled.held) filled.limit filled.over) where
  place : filled.place ≡ 0
  place = ap (λ (w : WindowState). w.place) fills.holds

  limited : filled.limit ≡ limit
  limited = ap (λ (w : WindowState). w.limit) fills.holds

  held : filled.held ≡ fills.joined
  held = ap (λ (w : WindowState). w.held) fills.holds

  within : length filled.held ≤ limit
  within = omega (arith, place, limited, within_limit filled.place (length filled.held) filled.limit filled.over inside)

  past_none : (over : Option InputEnd) → filled.over ≡ over → (¬ (over ≡ Some Limit)) → fills.past ≡ []
  past_none None is other = subst (λ (o : Option InputEnd). IsPast None o fills.past) is fills.beyond
  past_none (Some Source) is other = subst (λ (o : Option InputEnd). IsPast None o fills.past) is fills.beyond
  past_none (Some Limit) is other = absurd (other refl)

  takes_held : (¬ (filled.over ≡ Some Limit)) → Takes before after filled.held
  takes_held other = subst (Takes before after) (ap (λ (l : List ℕ). fills.joined ++ l) (past_none filled.over refl other) ∙ append-nil fills.joined ∙ sym held) fills.taken

  past_few : (over : Option InputEnd) → IsPast None over fills.past → length fills.past ≤ 1
  past_few None is = omega (arith, ap length is)
  past_few (Some Source) is = omega (arith, ap length is)
  past_few (Some Limit) is = omega (arith, is)

  -- one byte past the limit is taken at most
  pub taken_few : TakesAtMost before after (limit + 1)
  taken_few = at_most before after (fills.joined ++ fills.past) (limit + 1) fills.taken
      (omega (arith, length-append fills.joined fills.past, past_few filled.over fills.beyond, within, ap length held))

  -- a read failed before eight bytes were held
  pub unread_few : filled.over ≡ None → length filled.held < 8 → IfSome before (BreaksOffEarly limit after)
  unread_few open_still few = told_few before after (takes_held (λ is. not_limit (sym open_still ∙ is)))
    where
      told_few : (o l : Option (List ℕ)) → Takes o l filled.held → IfSome o (BreaksOffEarly limit l)
      told_few None l takes = tt
      told_few (Some b) None takes = absurd takes
      told_few (Some b) (Some l) takes = (
        length filled.held,
        sym (ap length takes ∙ length-append filled.held l),
        (short_no_input (take (length filled.held) (take limit b)) (omega (arith, few, length-take (length filled.held) (take limit b))), inl few),
      )

  -- the bytes begin with the magic
  pub after_magic : (version : Version) (window : WindowState) (body : List ℕ) → filled.over ≡ None → BeginsWith commands.magics filled.held version body
      → window ≡ record filled { held = drop 8 filled.held; place = filled.place + 8 } → length filled.held ≤ filled.room → IsAfterSource limit (Empty version) window before after
  after_magic version window body open_still magic advanced few = record {
    limited = ap (λ (w : WindowState). w.limit) advanced ∙ limited;
    place = ap (λ (w : WindowState). w.place) advanced ∙ ap (λ (n : ℕ). n + 8) place ∙ sym (eight version);
    room = ap (λ (w : WindowState). w.room) advanced ∙ ap (λ (w : WindowState). w.room) fills.holds;
    over = ap (λ (w : WindowState). w.over) advanced ∙ open_still;
    first = filled.held;
    takes = takes_held (λ is. not_limit (sym open_still ∙ is));
    magic = (tt, magic.1 ∙ ap (λ (l : List ℕ). command_magic_of version ++ l) (sym (ap (λ (w : WindowState). w.held) advanced ∙ ap (drop 8) magic.1 ∙ drop_at (command_magic_of version) body 8 (eight version))));
    few = within;
    held = omega (arith, few, ap (λ (w : WindowState). w.room) fills.holds, ap (λ (w : WindowState). length w.held) advanced, length-drop 8 filled.held);
  }

  -- the bytes that are held, and those that were taken
  pub held_taken : filled.over ≡ None → Takes before after filled.held
  held_taken open_still = takes_held (λ is. not_limit (sym open_still ∙ is))

  pub held_first : filled.place ≡ 0
  held_first = place

  pub held_limit : filled.limit ≡ limit
  held_limit = limited

  pub held_room : filled.room ≡ 1029
  held_room = ap (λ (w : WindowState). w.room) fills.holds

  module _ (wanted : Option Version) where
    -- the source ended before eight bytes
    ended_short : length filled.held < 8 → filled.over ≡ Some Source → IfSome after (λ left. left ≡ []) → (told left : Option (List ℕ)) → told ≡ before → left ≡ after → IfSome told (λ bytes. IsNoSource wanted (take limit bytes))
    ended_short few over all None left is also = tt
    ended_short few over all (Some bytes) None is also =
        absurd (subst (λ (o : Option (List ℕ)). Takes o None filled.held) (sym is) (subst (λ (o : Option (List ℕ)). Takes before o filled.held) (sym also) (takes_held (λ e. source_no_limit (sym over ∙ e)))))
    ended_short few over all (Some bytes) (Some left) is also =
        let taken : bytes ≡ filled.held ++ left = subst (λ (o : Option (List ℕ)). Takes o (Some left) filled.held) (sym is) (subst (λ (o : Option (List ℕ)). Takes before o filled.held) (sym also) (takes_held (λ e. source_no_limit (sym over ∙ e)))) in
        let none : left ≡ [] = subst (λ (o : Option (List ℕ)). IfSome o (λ (l : List ℕ). l ≡ [])) (sym also) all in
        none_of_short wanted (take limit bytes) (omega (arith, few, ap length taken, ap length none, length-append filled.held left, length-take limit bytes))

    pub ended_before : length filled.held < 8 → filled.over ≡ Some Source → IfSome after (λ left. left ≡ []) → IfSome before (λ bytes. IsNoSource wanted (take limit bytes))
    ended_before few over all = ended_short few over all before after refl refl

    -- the limit was reached before eight bytes
    limit_short : limit < 8 → (told : Option (List ℕ)) → IfSome told (λ bytes. IsNoSource wanted (take limit bytes))
    limit_short few None = tt
    limit_short few (Some bytes) = none_of_short wanted (take limit bytes) (omega (arith, few, length-take limit bytes))

    pub limit_before : length filled.held < 8 → filled.over ≡ Some Limit → IfSome before (λ bytes. IsNoSource wanted (take limit bytes))
    limit_before few over =
        let full : filled.place + length filled.held ≡ filled.limit = subst (λ (o : Option InputEnd). IsWithin filled.place (length filled.held) filled.limit o) over inside in
        limit_short (omega (arith, full, few, place, limited)) before

  -- another magic, or none
  other : (own : Version) → 8 ≤ length filled.held → IsNoSource (Some own) filled.held → (told left : Option (List ℕ)) → Takes told left filled.held → IfSome told (λ bytes. IsNoSource (Some own) (take limit bytes))
  other own some none None left takes = tt
  other own some none (Some bytes) None takes = absurd takes
  other own some none (Some bytes) (Some left) takes =
      let whole : take limit bytes ≡ filled.held ++ take (limit - length filled.held) left = ap (take limit) takes ∙ considered limit filled.held left within in
      subst (IsNoSource (Some own)) (sym whole) (none_of_more own filled.held (take (limit - length filled.held) left) some none)

  pub other_magic : (own : Version) → filled.over ≡ None → 8 ≤ length filled.held → IsNoSource (Some own) filled.held → IfSome before (λ bytes. IsNoSource (Some own) (take limit bytes))
  other_magic own open_still some none = other own some none before after (takes_held (λ is. not_limit (sym open_still ∙ is)))

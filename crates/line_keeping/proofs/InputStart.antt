-- An input of a new disk that is opened: what is before its lines, from the bytes that were taken of it.
use Rattle.std.proofs.Common.{◌≡◌, ◌⊎◌, inl, inr, ℕ, ◌+◌, ◌-◌, ◌≤◌, List, [], ◌∷◌, ◌++◌, Option, None, Some, IfSome, true, false, length, length-append, take, refl, sym, ap, subst, ◌∙◌, arith, append_assoc}
use Rattle.std.proofs.lemmas.List.{take_all}
use Rattle.flow_io.specs.Streams.{Takes}
use Rattle.flow_io.specs.Windows.{WindowState, empty_window}
use Rattle.flow_io.specs.declared.window.InputEnd.{InputEnd}
use Rattle.flow_io.specs.declared.window.InputEnd.TheVariants.{Source, Limit}
use Rattle.flow_io.proofs.Reading.{Takes-more}
use Rattle.file_units.specs.Inputs.{known}
use Rattle.file_units.proofs.Gone.{considered}
use Rattle.market_rules.specs.Market.{Market, empty_market}
use Rattle.market_snapshot.specs.Checkpoints.{checkpoint_magic, checkpoint_bytes, IsCheckpoint, HasCheckpointMagic, BeginsWithNoCheckpoint}
use Rattle.wire_records.specs.declared.version.Version.{Version}
use Rattle.market_history.specs.Histories.{Start, Empty, Kept}
use Rattle.market_history.specs.Kept.{FindsNone, FindsKept}
use Rattle.market_history.specs.declared.start.StartFault.TheVariants as start
use Rattle.market_history.proofs.Starting.{kept_magic, magic_on}
use Rattle.journal_disk.specs.Entries.{framed}
use Rattle.journal_disk.proofs.Entries.{length-framed}
use Rattle.journal_keeping.specs.declared.fault.InputFault.TheVariants.{Read, Memory, NotFlow, BadCheckpoint}
use Rattle.journal_keeping.specs.Inputs.{BeginsUnsound, InputBegins, HasShownStart}
use Rattle.journal_keeping.specs.Taking.{NotTaken, IsAfterStart}
use Rattle.journal_keeping.specs.Beginning.{TakesStart}
use Rattle.journal_keeping.proofs.Starts.{magic_first, magic_long}
use Rattle.journal_keeping.proofs.SourceStart.{first_taken, in_checkpoint, are_first}
use Rattle.input_lines.specs.Long.{most_line}
use Rattle.input_lines.specs.Finding.{IsOpen, HasEnded}
use Rattle.line_keeping.specs.Inputs.{newest, IsBefore, IsPartOfMagic, IsUnopened, line_starts}
use Rattle.line_keeping.specs.Private.{lines_format}
use Rattle.line_keeping.specs.Private.{ShowsStart, ShowsNone}

-- a checkpoint has eight bytes at least
pub checkpoint_long : (market : Market) → 8 ≤ length (checkpoint_bytes market)
checkpoint_long market = magic_long (checkpoint_bytes market) (magic_first market)

-- bytes that begin with a checkpoint show it
pub checkpoint_opened : (market : Market) (rest : List ℕ) → IsCheckpoint market (checkpoint_bytes market) → ¬ IsUnopened None (checkpoint_bytes market ++ rest)
checkpoint_opened market rest one (inl part) = omega (arith, part.2, checkpoint_long market, length-append (checkpoint_bytes market) rest)
checkpoint_opened market rest one (inr unsound) = unsound.1 market (checkpoint_bytes market) rest one refl

-- what the bytes that were taken first show
pub start_shown : (limit : ℕ) (content after : Option (List ℕ)) (first : List ℕ) → Takes content after first → length first ≤ limit → (before : Start) (text : List ℕ) → IsBefore first before text
    → (¬ IsUnopened None first) ⊎ (IfSome after (λ left. left ≡ []) ⊎ (limit ≡ length first)) → IfSome content (λ bytes. HasShownStart line_starts limit bytes after)
start_shown limit None after first takes few before text is why = tt
start_shown limit (Some bytes) None first takes few before text is why = absurd takes
start_shown limit (Some bytes) (Some left) first takes few before text is why =
    (length first, sym (ap length takes ∙ length-append first left), before, text, subst (λ (l : List ℕ). IsBefore l before text) (sym same) is, shown why)
  where
    same : take (length first) (take limit bytes) ≡ first
    same = first_taken limit first left bytes takes few

    shown : (¬ IsUnopened None first) ⊎ ((left ≡ []) ⊎ (limit ≡ length first)) → (¬ IsUnopened None (take (length first) (take limit bytes))) ⊎ ((Some left ≡ Some []) ⊎ (limit ≤ length first))
    shown (inl not) = inl (λ unopened. not (subst (IsUnopened None) same unopened))
    shown (inr (inl none)) = inr (inl (ap (λ (l : List ℕ). Some l) none))
    shown (inr (inr full)) = inr (inr (omega (arith, full)))

-- ---- nothing is before the lines

module _ (limit : ℕ) (new : WindowState) (rest after : Option (List ℕ)) (shows : ShowsStart (empty_window (most_line + 1) limit) new rest after false) where
  within : length new.held ≤ limit
  within = omega (arith, shows.is_open.within, shows.place, shows.limit)

  other : ¬ HasCheckpointMagic (take limit (known new.held after))
  other = subst (λ (n : ℕ). ¬ HasCheckpointMagic (take n (known new.held after))) shows.limit (shows.other (λ is_true. absurd cc)).0

  held_none : ¬ HasCheckpointMagic new.held
  held_none has = other (in_all after)
    where
      in_all : (o : Option (List ℕ)) → HasCheckpointMagic (take limit (known new.held o))
      in_all None = subst HasCheckpointMagic (sym (take_all limit new.held within)) has
      in_all (Some left) = subst HasCheckpointMagic (sym (considered limit new.held left within)) (magic_on new.held (take (limit - length new.held) left) has)

  why : (¬ IsUnopened None new.held) ⊎ (HasEnded new after ⊎ (new.limit ≡ length new.held)) → (¬ IsUnopened None new.held) ⊎ (IfSome after (λ left. left ≡ []) ⊎ (limit ≡ length new.held))
  why (inl not) = inl not
  why (inr (inl ended)) = inr (inl ended.1)
  why (inr (inr full)) = inr (inr (omega (arith, full, shows.limit)))

  bare_shown : (version : Version) → IfSome rest (λ bytes. HasShownStart line_starts limit bytes after)
  bare_shown version = start_shown limit rest after new.held shows.takes within (Empty version) new.held (held_none, refl) (why (shows.other (λ is_true. absurd cc)).1)

  bare_begins : (version : Version) → InputBegins line_starts limit rest (Empty version)
  bare_begins version = by_cases rest after shows.takes other
    where
      by_cases : (b a : Option (List ℕ)) → Takes b a new.held → (¬ HasCheckpointMagic (take limit (known new.held a))) → InputBegins line_starts limit b (Empty version)
      by_cases None a takes none = tt
      by_cases (Some bytes) None takes none = absurd takes
      by_cases (Some bytes) (Some left) takes none = (take limit bytes, (subst (λ (l : List ℕ). ¬ HasCheckpointMagic (take limit l)) (sym takes) none, refl))

  pub bare_after : (version : Version) → length new.held ≤ 65538 → IsAfterStart lines_format limit (Empty version) new rest after
  bare_after version few = record {
    starts = tt;
    limited = shows.limit;
    place = shows.place;
    takes = shows.takes;
    within = shows.is_open.within;
    near = few;
    begins = bare_begins version;
    shown = bare_shown version;
  }

  pub takes_bare : (market : Market) (stored : List ℕ) → market ≡ empty_market newest → stored ≡ [] → length new.held ≤ 65538 → TakesStart lines_format limit market stored new rest after
  takes_bare market stored is none few = record {
    begin = Empty newest;
    may = refl;
    following = bare_after newest few;
    market_is = is;
    stored_is = none;
    few = omega (arith, ap length none);
  }

-- it isn't known whether a checkpoint is before them
part_unopened : (wanted : Option Version) (bytes : List ℕ) → IsPartOfMagic bytes → IsUnopened wanted bytes
part_unopened None bytes part = inl part
part_unopened (Some version) bytes part = part

pub unread_start : (wanted : Option Version) (limit : ℕ) (content after : Option (List ℕ)) → ShowsNone limit content after → NotTaken lines_format limit wanted content after Read
unread_start wanted limit None after none = tt
unread_start wanted limit (Some bytes) None none = absurd none.takes
unread_start wanted limit (Some bytes) (Some left) none =
    let same = first_taken limit none.joined left bytes none.takes none.within in
    (length none.joined, sym (ap length none.takes ∙ length-append none.joined left), subst (IsUnopened wanted) (sym same) (part_unopened wanted none.joined (none.part.0, none.part.1, none.few)))

-- ---- a checkpoint is before the lines

-- bytes that were taken, and have the magic of a checkpoint
unread_unsound : (limit : ℕ) (content after : Option (List ℕ)) (first : List ℕ) → Takes content after first → length first ≤ limit → BeginsUnsound first → NotTaken lines_format limit None content after Read
unread_unsound limit None after first takes few unsound = tt
unread_unsound limit (Some bytes) None first takes few unsound = absurd takes
unread_unsound limit (Some bytes) (Some left) first takes few unsound =
    let same = first_taken limit first left bytes takes few in
    (length first, sym (ap length takes ∙ length-append first left), subst (IsUnopened None) (sym same) (inr unsound))

unsound_first : (limit : ℕ) (content after : Option (List ℕ)) (first : List ℕ) → Takes content after first → 8 ≤ limit → HasCheckpointMagic first → BeginsWithNoCheckpoint (take limit (known first after)) → NotTaken lines_format limit None content after BadCheckpoint
unsound_first limit None after first takes some magic none = (refl, tt)
unsound_first limit (Some bytes) None first takes some magic none = absurd takes
unsound_first limit (Some bytes) (Some left) first takes some magic none =
    (refl, subst (λ (l : List ℕ). BeginsUnsound (take limit l)) (sym takes) (within_magic (first ++ left) (magic_on first left magic), none))
  where
    within_magic : (l : List ℕ) → HasCheckpointMagic l → HasCheckpointMagic (take limit l)
    within_magic l (rest, e) = (take (limit - 8) rest, ap (take limit) e ∙ considered limit checkpoint_magic rest some)

module _ (limit : ℕ) (w : WindowState) (rest x : Option (List ℕ)) (shows : ShowsStart (empty_window (most_line + 1) limit) w rest x true) (y : Option (List ℕ)) where
  magic : HasCheckpointMagic w.held
  magic = shows.magic refl

  held_few : length w.held ≤ w.limit
  held_few = omega (arith, shows.is_open.within, shows.place)

  -- a read failed
  pub unread_checkpoint : FindsNone w x y start.Read → NotTaken lines_format limit None rest y Read
  unread_checkpoint (more, on, short, unsound) =
      unread_unsound limit rest y (w.held ++ more) (Takes-more rest x y w.held more shows.takes on) (omega (arith, short, shows.limit)) (magic_on w.held more magic, unsound)

  -- memory ran out
  pub out_checkpoint : FindsNone w x y start.Memory → NotTaken lines_format limit None rest y Memory
  out_checkpoint (more, on, short) =
      inr (refl, in_checkpoint limit rest y (w.held ++ more) (Takes-more rest x y w.held more shows.takes on) (omega (arith, short, shows.limit)) (magic_on w.held more magic))

  -- there is no checkpoint of a consistent market
  pub bad_checkpoint : FindsNone w x y start.NoCheckpoint → NotTaken lines_format limit None rest y BadCheckpoint
  bad_checkpoint (more, on, short, unsound) =
      unsound_first limit rest y (w.held ++ more) (Takes-more rest x y w.held more shows.takes on) (omega (arith, magic_long w.held magic, held_few, shows.limit)) (magic_on w.held more magic)
      (subst (λ (n : ℕ). BeginsWithNoCheckpoint (take n (known (w.held ++ more) y))) shows.limit unsound)

  -- the checkpoint was taken
  module _ (new : WindowState) (market : Market) (found : FindsKept w new x y market) where
    pub lawful_checkpoint : IsCheckpoint market (checkpoint_bytes market)
    lawful_checkpoint = subst (λ (l : List ℕ). IsCheckpoint market l) found.is_one.encoded found.is_one

    taken : Takes rest y (checkpoint_bytes market ++ new.held)
    taken = subst (λ (l : List ℕ). Takes rest y l) (sym found.taken.grew ∙ ap (λ (l : List ℕ). l ++ new.held) found.is_one.encoded) (Takes-more rest x y w.held found.taken.more shows.takes found.taken.takes)

    size : length (checkpoint_bytes market ++ new.held) ≤ limit
    size = omega (arith, length-append (checkpoint_bytes market) new.held, found.taken.within, found.taken.place, ap length found.is_one.encoded, found.taken.limit, shows.limit)

    -- the window can be read on
    pub checkpoint_open : IsOpen new y
    checkpoint_open = record {
      room = found.taken.room ∙ shows.is_open.room;
      unlimited = λ e. absurd (let bad : ◌≡◌ {A = Option InputEnd} None (Some Limit) = sym found.taken.unended ∙ e in cc);
      ended = λ e. absurd (let bad : ◌≡◌ {A = Option InputEnd} None (Some Source) = sym found.taken.unended ∙ e in cc);
      within = found.taken.within;
    }

    place : new.place ≡ length (checkpoint_bytes market)
    place = found.taken.place ∙ ap length found.is_one.encoded

    checkpoint_begins : InputBegins line_starts limit rest (Kept market)
    checkpoint_begins = by_cases rest y taken
      where
        by_cases : (b a : Option (List ℕ)) → Takes b a (checkpoint_bytes market ++ new.held) → InputBegins line_starts limit b (Kept market)
        by_cases None a takes = tt
        by_cases (Some bytes) None takes = absurd takes
        by_cases (Some bytes) (Some left) takes = (
          take (limit - length (checkpoint_bytes market)) (new.held ++ left),
          (
            lawful_checkpoint,
            ap (take limit) (takes ∙ append_assoc (checkpoint_bytes market) new.held left)
                ∙ considered limit (checkpoint_bytes market) (new.held ++ left) (omega (arith, size, length-append (checkpoint_bytes market) new.held)),
          ),
        )

    pub takes_checkpoint : (stored : List ℕ) → stored ≡ framed (checkpoint_bytes market) ++ 0 ∷ [] → length new.held ≤ 65538 → TakesStart lines_format limit market stored new rest y
    takes_checkpoint stored is few = record {
      begin = Kept market;
      may = tt;
      following = record {
        starts = lawful_checkpoint;
        limited = found.taken.limit ∙ shows.limit;
        place = place;
        takes = taken;
        within = found.taken.within;
        near = few;
        begins = checkpoint_begins;
        shown = start_shown limit rest y (checkpoint_bytes market ++ new.held) taken size (Kept market) new.held (lawful_checkpoint, refl) (inl (checkpoint_opened market new.held lawful_checkpoint));
      };
      market_is = refl;
      stored_is = is;
      few = omega (arith, ap length is, length-append (framed (checkpoint_bytes market)) (0 ∷ []), length-framed (checkpoint_bytes market), checkpoint_long market);
    }

    -- memory ran out when it was put together
    pub out_stored : NotTaken lines_format limit None rest y Memory
    out_stored = inr (refl, in_checkpoint limit rest y (checkpoint_bytes market ++ new.held) taken size (kept_magic market (checkpoint_bytes market ++ new.held) new.held refl))

-- a checkpoint is before the lines of a file that isn't new
pub other_start : (version : Version) (limit : ℕ) (w : WindowState) (content left : Option (List ℕ)) → ShowsStart (empty_window (most_line + 1) limit) w content left true → NotTaken lines_format limit (Some version) content left NotFlow
other_start version limit w content left shows =
    are_first limit HasCheckpointMagic content left w.held shows.takes (omega (arith, shows.is_open.within, shows.place, shows.limit)) (λ more. magic_on w.held more (shows.magic refl))

-- A source whose first eight bytes are held: it begins with a command file, with a checkpoint, or otherwise.
use Rattle.std.proofs.Common.{◌≡◌, inr, ℕ, ◌+◌, ◌-◌, ◌≤◌, List, [], ◌++◌, Option, Some, None, IfSome, Result, Ok, Err, IfErr, IsErr, length, take, drop, refl, sym, ap, subst, ◌∙◌, arith, length-drop}
use Rattle.std.proofs.lemmas.Bool.{false≢true}
use Rattle.std.proofs.lemmas.List.{drop_at}
use Rattle.flow_io.specs.Streams.{Takes, TakesAtMost}
use Rattle.flow_io.specs.Windows.{WindowState}
use Rattle.flow_io.proofs.Reading.{Takes-more}
use Rattle.wire_records.specs.Records.{longest_record}
use Rattle.wire_records.specs.Grammars.{BeginsWith, BeginsWithNone}
use Rattle.wire_records.specs.Formats.{commands, command_magic_of}
use Rattle.wire_records.proofs.RecordCode.{eight}
use Rattle.wire_records.specs.declared.version.Version.{Version}
use Rattle.file_units.specs.Inputs.{known}
use Rattle.file_units.proofs.Gone.{considered}
use Rattle.market_rules.specs.Market.{Market, empty_market}
use Rattle.market_snapshot.specs.Checkpoints.{checkpoint_magic, checkpoint_bytes, IsCheckpoint, HasCheckpointMagic, BeginsWithNoCheckpoint}
use Rattle.market_history.specs.Histories.{Empty}
use Rattle.market_history.specs.Kept.{FindsNone, FindsKept}
use Rattle.market_history.specs.declared.start.StartFault.TheVariants.{Read, Memory, NoCheckpoint}
use Rattle.market_history.proofs.Starting.{magic_on}
use Rattle.journal_keeping.specs.declared.fault.InputFault.{InputFault}
use Rattle.journal_keeping.specs.declared.fault.InputFault.TheVariants as fault
use Rattle.journal_keeping.specs.Inputs.{BeginsUnsound}
use Rattle.journal_keeping.specs.Taking.{NotTaken, source_format}
use Rattle.journal_keeping.specs.Starts.{BeginsOtherwise}
use Rattle.journal_keeping.specs.Beginning.{OpensStart}
use Rattle.journal_keeping.proofs.Magic.{at_most}
use Rattle.journal_keeping.proofs.SourceStart.{no_start, unsound_none, broke_off, in_checkpoint, are_first}

-- what holds after each error
pub after_err : {T E : Type 0} (r : Result T E) (P : E → Type 0) (Q : Type 0) → ((e : E) → P e → Q) → IfErr r P → IsErr r → Q
after_err (Ok value) P Q from holds is = absurd (false≢true is)
after_err (Err fault) P Q from holds is = from fault holds

-- the bytes begin with the magic of a checkpoint, and the considered ones with no checkpoint
unsound_first : (limit : ℕ) (before after : Option (List ℕ)) (first : List ℕ) → Takes before after first → HasCheckpointMagic first → 8 ≤ limit → BeginsWithNoCheckpoint (take limit (known first after)) → IfSome before (λ bytes. BeginsUnsound (take limit bytes))
unsound_first limit None after first takes magic some none = tt
unsound_first limit (Some bytes) None first takes magic some none = absurd takes
unsound_first limit (Some bytes) (Some left) first takes magic some none =
    let whole : take limit (first ++ left) ≡ take limit bytes = ap (take limit) (sym takes) in
    subst BeginsUnsound whole (within_magic (first ++ left) (magic_on first left magic), none)
  where
    within_magic : (bytes : List ℕ) → HasCheckpointMagic bytes → HasCheckpointMagic (take limit bytes)
    within_magic bytes (rest, e) = (take (limit - 8) rest, ap (take limit) e ∙ considered limit checkpoint_magic rest some)

module _ (before x : Option (List ℕ)) (old : WindowState) (takes : Takes before x old.held) (some : 8 ≤ length old.held) (first : old.place ≡ 0) (within : old.place + length old.held ≤ old.limit) where
  few : length old.held ≤ old.limit
  few = omega (arith, first, within)

  -- no more bytes were taken than those that are held
  pub few_at : TakesAtMost before x (old.limit + 1)
  few_at = at_most before x old.held (old.limit + 1) takes (omega (arith, few))

  -- the bytes begin with the magic of a command file
  pub opened_at : (version : Version) (body : List ℕ) → BeginsWith commands.magics old.held version body → (new : WindowState) → new ≡ record old { held = drop 8 old.held; place = old.place + 8 } → old.over ≡ None → old.room ≡ longest_record → length old.held ≤ old.room
      → (market : Market) (stored : List ℕ) → market ≡ empty_market version → stored ≡ [] → OpensStart old.limit market stored new before x
  opened_at version body magic new advanced unended wide fits market stored is none = record {
    begin = Empty version;
    following = record {
      limited = ap (λ (w : WindowState). w.limit) advanced;
      place = omega (arith, ap (λ (w : WindowState). w.place) advanced, first, eight version);
      room = ap (λ (w : WindowState). w.room) advanced ∙ wide;
      over = ap (λ (w : WindowState). w.over) advanced ∙ unended;
      first = old.held;
      takes = takes;
      magic = (tt, magic.1 ∙ ap (λ (l : List ℕ). command_magic_of version ++ l) (sym (ap (λ (w : WindowState). w.held) advanced ∙ ap (drop 8) magic.1 ∙ drop_at (command_magic_of version) body 8 (eight version))));
      few = few;
      held = omega (arith, fits, wide, ap (λ (w : WindowState). length w.held) advanced, length-drop 8 old.held);
    };
    market_is = is;
    stored_is = none;
  }

  -- the bytes begin with neither magic
  pub neither_at : BeginsWithNone commands.magics old.held → (¬ HasCheckpointMagic old.held) → IfSome before (λ bytes. BeginsOtherwise (take old.limit bytes))
  neither_at none other = are_first old.limit BeginsOtherwise before x old.held takes few (λ more. no_start old.held more some none other)

  module _ (y : Option (List ℕ)) (magic : HasCheckpointMagic old.held) where
    -- the checkpoint was taken
    pub checkpoint_at : (new : WindowState) (market : Market) → FindsKept old new x y market → IsCheckpoint market (checkpoint_bytes market) × Takes before y (checkpoint_bytes market ++ new.held)
    checkpoint_at new market found =
        let is = found.is_one.encoded in (
          subst (λ (l : List ℕ). IsCheckpoint market l) is found.is_one,
          subst (λ (l : List ℕ). Takes before y l) (sym found.taken.grew ∙ ap (λ (l : List ℕ). l ++ new.held) is) (Takes-more before x y old.held found.taken.more takes found.taken.takes),
        )

    -- a read failed
    pub unread_at : FindsNone old x y Read → NotTaken source_format old.limit None before y fault.Read × TakesAtMost before y (old.limit + 1)
    unread_at (more, on, short, unsound) =
        let all = Takes-more before x y old.held more takes on in
        let begins = magic_on old.held more magic in
        (broke_off old.limit before y (old.held ++ more) all short begins (unsound_none (old.held ++ more) begins unsound), at_most before y (old.held ++ more) (old.limit + 1) all (omega (arith, short)))

    -- memory ran out
    pub out_at : FindsNone old x y Memory → NotTaken source_format old.limit None before y fault.Memory × TakesAtMost before y (old.limit + 1)
    out_at (more, on, short) =
        let all = Takes-more before x y old.held more takes on in
        (inr (refl, in_checkpoint old.limit before y (old.held ++ more) all short (magic_on old.held more magic)), at_most before y (old.held ++ more) (old.limit + 1) all (omega (arith, short)))

    -- there is no checkpoint of a consistent market
    pub unsound_at : FindsNone old x y NoCheckpoint → NotTaken source_format old.limit None before y fault.BadCheckpoint × TakesAtMost before y (old.limit + 1)
    unsound_at (more, on, short, unsound) =
        let all = Takes-more before x y old.held more takes on in
        ((refl, unsound_first old.limit before y (old.held ++ more) all (magic_on old.held more magic) (omega (arith, some, few)) unsound), at_most before y (old.held ++ more) (old.limit + 1) all short)

-- a window's limit stays as it was
pub of_limit : (before after : Option (List ℕ)) (why : InputFault) (now limit : ℕ) → now ≡ limit → NotTaken source_format now None before after why × TakesAtMost before after (now + 1) → NotTaken source_format limit None before after why × TakesAtMost before after (limit + 1)
of_limit before after why now limit same of = subst (λ (n : ℕ). NotTaken source_format n None before after why × TakesAtMost before after (n + 1)) same of

-- A window that holds the first bytes of an input was moved past what is before the lines, or nothing was found.
use Rattle.std.proofs.Common.{◌≡◌, inr, ℕ, ◌+◌, ◌-◌, ◌≤◌, List, [], ◌∷◌, ◌++◌, Option, None, Some, length, length-append, take, drop, refl, sym, ap, subst, ◌∙◌, arith}
use Rattle.std.proofs.lemmas.List.{drop_at}
use Rattle.flow_io.specs.Streams.{Takes}
use Rattle.flow_io.specs.Windows.{WindowState}
use Rattle.flow_io.specs.declared.window.InputEnd.{InputEnd}
use Rattle.flow_io.specs.declared.window.InputEnd.TheVariants.{Source, Limit}
use Rattle.flow_io.proofs.Reading.{Takes-more}
use Rattle.file_units.specs.Inputs.{known}
use Rattle.file_units.proofs.Gone.{considered}
use Rattle.wire_records.specs.declared.version.Version.{Version}
use Rattle.market_rules.specs.Market.{Market, empty_market}
use Rattle.market_snapshot.specs.Checkpoints.{checkpoint_magic, checkpoint_bytes, IsCheckpoint, HasCheckpointMagic}
use Rattle.market_history.specs.Histories.{Empty, Kept}
use Rattle.market_history.specs.Kept.{FindsNone, FindsKept}
use Rattle.market_history.specs.declared.start.StartFault.TheVariants as start
use Rattle.market_history.proofs.Starting.{kept_magic, magic_on}
use Rattle.journal_disk.specs.Entries.{framed}
use Rattle.journal_keeping.specs.declared.fault.InputFault.TheVariants.{Read, Memory, BadCheckpoint}
use Rattle.input_lines.specs.Finding.{IsOpenFor}
use Rattle.desk_opening.specs.Beginnings.{version_line, HasBegun, NotBegun}
use Rattle.desk_opening.proofs.FirstBytes.{line_size}

-- a window of which the end of the input wasn't seen can be read on
opens : (most : ℕ) (w : WindowState) (after : Option (List ℕ)) → w.room ≡ most + 1 → w.over ≡ None → w.place + length w.held ≤ w.limit → IsOpenFor most w after
opens most w after room over within = record {
  room = room;
  unlimited = λ e. absurd (let bad : ◌≡◌ {A = Option InputEnd} None (Some Limit) = sym over ∙ e in cc);
  ended = λ e. absurd (let bad : ◌≡◌ {A = Option InputEnd} None (Some Source) = sym over ∙ e in cc);
  within = within;
}

-- the window holds the first bytes
module _ (old : WindowState) (x before : Option (List ℕ)) (over : old.over ≡ None) (inside : old.place + length old.held ≤ old.limit) (first : old.place ≡ 0) (takes : Takes before x old.held) where
  -- a line that says a version was passed
  pub begun_line : (most : ℕ) (new : WindowState) (version : Version) (rest : List ℕ) (market : Market) (stored : List ℕ) → old.room ≡ most + 1 → old.held ≡ version_line version ++ rest
      → new ≡ record old { held = drop 14 old.held; place = old.place + 14 } → market ≡ empty_market version → stored ≡ [] → HasBegun most old.limit market stored new before x
  begun_line most new version rest market stored room is moved market_is stored_is =
      let held : new.held ≡ rest = ap (λ (w : WindowState). w.held) moved ∙ ap (drop 14) is ∙ drop_at (version_line version) rest 14 (line_size version) in
      let place : new.place ≡ 14 = omega (arith, ap (λ (w : WindowState). w.place) moved, first) in
      record {
        begin = Empty version;
        is_one = record { starts = tt; market_is = market_is; stored_is = stored_is };
        takes = subst (Takes before x) (is ∙ ap (λ (l : List ℕ). version_line version ++ l) (sym held)) takes;
        place = place ∙ sym (line_size version);
        limited = ap (λ (w : WindowState). w.limit) moved;
        is_open = opens most new x (ap (λ (w : WindowState). w.room) moved ∙ room) (ap (λ (w : WindowState). w.over) moved ∙ over)
            (omega (arith, place, ap length held, ap length is, length-append (version_line version) rest, line_size version, first, inside, ap (λ (w : WindowState). w.limit) moved));
      }

  held_few : length old.held ≤ old.limit
  held_few = omega (arith, inside, first)

  -- a checkpoint begins
  module _ (y : Option (List ℕ)) (magic : HasCheckpointMagic old.held) where
    -- a read failed
    pub unread_checkpoint : FindsNone old x y start.Read → NotBegun old.limit before y Read
    unread_checkpoint (more, on, short, unsound) = (old.held ++ more, Takes-more before x y old.held more takes on, short, inr (magic_on old.held more magic, unsound))

    -- memory ran out
    pub out_checkpoint : FindsNone old x y start.Memory → NotBegun old.limit before y Memory
    out_checkpoint (more, on, short) = (old.held ++ more, Takes-more before x y old.held more takes on, short, magic_on old.held more magic)

    -- there is no checkpoint of a consistent market
    pub bad_checkpoint : FindsNone old x y start.NoCheckpoint → NotBegun old.limit before y BadCheckpoint
    bad_checkpoint (more, on, short, unsound) = (
      old.held ++ more,
      Takes-more before x y old.held more takes on,
      short,
      (within_magic (known (old.held ++ more) y) (known_magic (old.held ++ more) y (magic_on old.held more magic)), unsound),
    )
      where
        known_magic : (taken : List ℕ) (after : Option (List ℕ)) → HasCheckpointMagic taken → HasCheckpointMagic (known taken after)
        known_magic taken None has = has
        known_magic taken (Some left) has = magic_on taken left has

        within_magic : (l : List ℕ) → HasCheckpointMagic l → HasCheckpointMagic (take old.limit l)
        within_magic l (rest, e) =
            (take (old.limit - 8) rest, ap (take old.limit) e ∙ considered old.limit checkpoint_magic rest (omega (arith, held_few, ap length magic.1, length-append checkpoint_magic magic.0)))

    -- the checkpoint was taken
    module _ (new : WindowState) (market : Market) (found : FindsKept old new x y market) where
      taken : Takes before y (checkpoint_bytes market ++ new.held)
      taken = subst (λ (l : List ℕ). Takes before y l) (sym found.taken.grew ∙ ap (λ (l : List ℕ). l ++ new.held) found.is_one.encoded) (Takes-more before x y old.held found.taken.more takes found.taken.takes)

      place : new.place ≡ length (checkpoint_bytes market)
      place = found.taken.place ∙ ap length found.is_one.encoded

      pub begun_checkpoint : (most : ℕ) (stored : List ℕ) → old.room ≡ most + 1 → stored ≡ framed (checkpoint_bytes market) ++ 0 ∷ [] → HasBegun most old.limit market stored new before y
      begun_checkpoint most stored room is = record {
        begin = Kept market;
        is_one = record { starts = subst (λ (l : List ℕ). IsCheckpoint market l) found.is_one.encoded found.is_one; market_is = refl; stored_is = is };
        takes = taken;
        place = place;
        limited = found.taken.limit;
        is_open = opens most new y (found.taken.room ∙ room) found.taken.unended found.taken.within;
      }

      -- memory ran out when it was put together
      pub out_stored : NotBegun old.limit before y Memory
      out_stored = (
        checkpoint_bytes market ++ new.held,
        taken,
        omega (arith, length-append (checkpoint_bytes market) new.held, place, found.taken.within, found.taken.limit),
        kept_magic market (checkpoint_bytes market ++ new.held) new.held refl,
      )

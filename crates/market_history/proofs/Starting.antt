-- What bytes begin with, by their first eight and by what was read.
use Rattle.std.proofs.Common.{◌≡◌, ◌+◌, ◌-◌, ◌<◌, ◌≤◌, ℕ, List, [], ◌++◌, Option, Some, None, Result, Ok, Err, IfOk, IfErr, IfSome, length, take, drop, append-nil, append_assoc, length-append, refl, sym, ap, ◌∙◌, subst, arith}
use Rattle.std.proofs.lemmas.List.{take-append-drop, take-append-le, take_at, drop_at, length-take}
use Rattle.flow_io.specs.Streams.{Takes}
use Rattle.flow_io.specs.Windows.{WindowState, IsPast, IsWithin, Fills, empty_window}
use Rattle.flow_io.specs.declared.window.InputEnd.{InputEnd}
use Rattle.flow_io.specs.declared.window.InputEnd.TheVariants.{Source, Limit}
use Rattle.flow_io.proofs.Reading.{Takes-more}
use Rattle.wire_records.specs.Grammars.{BeginsWith, BeginsWithNone}
use Rattle.wire_records.specs.declared.version.Version.{Version}
use Rattle.file_units.specs.Inputs.{known}
use Rattle.file_units.proofs.Gone.{within_limit}
use Rattle.journal_records.specs.Formats.{journals, journal_magic_of}
use Rattle.journal_records.proofs.Files.{eight}
use Rattle.market_rules.specs.Market.{Market, empty_market}
use Rattle.market_snapshot.specs.Checkpoints.{checkpoint_magic, checkpoint_bytes, IsCheckpoint, HasCheckpointMagic, BeginsWithNoCheckpoint}
use Rattle.market_history.specs.declared.start.StartFault.{StartFault}
use Rattle.market_history.specs.declared.start.StartFault.TheVariants.{Read, Memory, NotFlow, NoCheckpoint}
use Rattle.market_history.specs.Histories.{Empty, Kept, starts, BeginsOtherwise}
use Rattle.market_history.specs.Reading.{Begins, AreFound, AreTaken, FindsStart}
use Rattle.market_history.specs.Kept.{FindsNone, FindsKept}
use Rattle.market_history.proofs.Taking.{considered_after}

-- a checkpoint begins with its magic
pub made_magic : (market : Market) → (rest : List ℕ) × (checkpoint_bytes market ≡ checkpoint_magic ++ rest)
unfolding checkpoint_bytes
made_magic market = (_, refl)

pub kept_magic : (market : Market) (bytes rest : List ℕ) → bytes ≡ checkpoint_bytes market ++ rest → HasCheckpointMagic bytes
kept_magic market bytes rest e = let made = made_magic market in (made.0 ++ rest, e ∙ ap (λ xs. xs ++ rest) made.1 ∙ append_assoc checkpoint_magic made.0 rest)

-- a magic of eight bytes is in the first eight bytes
in_eight : (magic held more rest : List ℕ) → length magic ≡ 8 → 8 ≤ length held → held ++ more ≡ magic ++ rest → held ≡ magic ++ drop 8 held
in_eight magic held more rest size some e =
    sym (take-append-drop 8 held) ∙ ap (λ xs. xs ++ drop 8 held) (sym (take-append-le 8 held more some) ∙ ap (take 8) e ∙ take_at magic rest 8 size)

magic_in : (held more : List ℕ) → 8 ≤ length held → HasCheckpointMagic (held ++ more) → HasCheckpointMagic held
magic_in held more some (rest, e) = (drop 8 held, in_eight checkpoint_magic held more rest refl some e)

pub magic_on : (held more : List ℕ) → HasCheckpointMagic held → HasCheckpointMagic (held ++ more)
magic_on held more (rest, e) = (rest ++ more, ap (λ xs. xs ++ more) e ∙ append_assoc checkpoint_magic rest more)

no_journal : (held more : List ℕ) → 8 ≤ length held → BeginsWithNone journals.magics held → BeginsWithNone journals.magics (held ++ more)
no_journal held more some none version rest lawful e = none version (drop 8 held) lawful (in_eight (journal_magic_of version) held more rest (eight version) some e)

-- the bytes begin with neither magic
pub otherwise : (held more : List ℕ) → 8 ≤ length held → BeginsWithNone journals.magics held → (¬ HasCheckpointMagic held) → BeginsOtherwise (held ++ more)
otherwise held more some none not = (neither, λ magic. not (magic_in held more some magic))
  where
    neither : BeginsWithNone starts (held ++ more)
    neither (Empty version) rest lawful e = no_journal held more some none version rest lawful e
    neither (Kept market) rest lawful e = not (magic_in held more some (kept_magic market (held ++ more) rest e))

-- bytes that begin with no journal and no checkpoint begin no history
unstarted : (bytes : List ℕ) → BeginsWithNone journals.magics bytes → BeginsWithNoCheckpoint bytes → BeginsWithNone starts bytes
unstarted bytes none unsound (Empty version) rest lawful e = none version rest lawful e
unstarted bytes none unsound (Kept market) rest lawful e = unsound market (checkpoint_bytes market) rest lawful e

-- fewer than eight bytes begin with no magic
pub too_few : (bytes : List ℕ) → length bytes < 8 → BeginsOtherwise bytes
too_few bytes short = (neither, λ magic. not_magic magic)
  where
    not_magic : HasCheckpointMagic bytes → ⊥
    not_magic (rest, e) = omega (arith, short, ap length e, length-append checkpoint_magic rest)

    neither : BeginsWithNone starts bytes
    neither (Empty version) rest lawful e = omega (arith, short, ap length e, length-append (journal_magic_of version) rest, eight version)
    neither (Kept market) rest lawful e = not_magic (kept_magic market bytes rest e)

-- ---- what was found

module _ (before x : Option (List ℕ)) (old : WindowState) (held_first : Takes before x old.held) (some : 8 ≤ length old.held) where
  -- the bytes begin with a journal's magic
  pub begins_journal : (version : Version) (body : List ℕ) (new : WindowState) (market : Market) → BeginsWith journals.magics old.held version body → market ≡ empty_market version → new ≡ record old { held = drop 8 old.held; place = old.place + 8 } → old.place ≡ 0
      → old.place + length old.held ≤ old.limit → old.over ≡ None → Begins before x new market
  begins_journal version body new market begins is moved first within unended =
      let held : new.held ≡ drop 8 old.held = ap (λ (w : WindowState). w.held) moved in
      let place : new.place ≡ old.place + 8 = ap (λ (w : WindowState). w.place) moved in
      let limit : new.limit ≡ old.limit = ap (λ (w : WindowState). w.limit) moved in
      let whole : old.held ≡ journal_magic_of version ++ new.held = begins.1 ∙ ap (λ xs. journal_magic_of version ++ xs) (sym (held ∙ ap (drop 8) begins.1 ∙ drop_at (journal_magic_of version) body 8 (eight version))) in
      record {
        start = Empty version;
        lawful = tt;
        market_is = is;
        takes = subst (λ (xs : List ℕ). Takes before x xs) whole held_first;
        place = omega (arith, place, first, eight version);
        within = omega (arith, place, limit, within, ap length whole, length-append (journal_magic_of version) new.held, eight version);
        unended = ap (λ (w : WindowState). w.over) moved ∙ unended;
      }

  -- the bytes begin with neither magic
  pub begins_otherwise : old.place ≡ 0 → old.place + length old.held ≤ old.limit → BeginsWithNone journals.magics old.held → (¬ HasCheckpointMagic old.held) → AreFound old.limit before x BeginsOtherwise
  begins_otherwise first within none not = record {
    taken = old.held;
    takes = held_first;
    few = omega (arith, first, within);
    are = subst BeginsOtherwise (sym (ap (λ xs. take old.limit (known xs x)) (sym (append-nil old.held)) ∙ considered_after old.limit old.held [] x (omega (arith, first, within)))) (otherwise old.held (take (old.limit - length old.held) (known [] x)) some none not);
  }

  module _ (z : Option (List ℕ)) (new : WindowState) (first : old.place ≡ 0) (within : old.place + length old.held ≤ old.limit) (none : BeginsWithNone journals.magics old.held) (magic : HasCheckpointMagic old.held) where
    kept : (market : Market) → FindsKept old new x z market → Begins before z new market
    kept market found =
        let on = found.taken in
        let is = found.is_one.encoded in
        record {
          start = Kept market;
          lawful = subst (λ (xs : List ℕ). IsCheckpoint market xs) is found.is_one;
          market_is = refl;
          takes = subst (λ (xs : List ℕ). Takes before z xs) (sym on.grew ∙ ap (λ xs. xs ++ new.held) is) (Takes-more before x z old.held on.more held_first on.takes);
          place = on.place ∙ ap length is;
          within = on.within;
          unended = on.unended;
        }

    faulted : (fault : StartFault) → FindsNone old x z fault → FindsStart old.limit before z new (Err fault)
    faulted Read (more, takes, few, unsound) = record {
      taken = old.held ++ more;
      takes = Takes-more before x z old.held more held_first takes;
      few = few;
      are = unstarted (old.held ++ more) (no_journal old.held more some none) unsound;
    }
    faulted Memory (more, takes, few) = record {
      taken = old.held ++ more;
      takes = Takes-more before x z old.held more held_first takes;
      few = few;
      are = magic_on old.held more magic;
    }
    faulted NoCheckpoint (more, takes, few, unsound) =
        let following = take (old.limit - length old.held) (known more z) in
        let all : take old.limit (known (old.held ++ more) z) ≡ old.held ++ following = considered_after old.limit old.held more z (omega (arith, first, within)) in
        record {
          taken = old.held ++ more;
          takes = Takes-more before x z old.held more held_first takes;
          few = few;
          are = (unstarted (take old.limit (known (old.held ++ more) z)) (subst (λ (xs : List ℕ). BeginsWithNone journals.magics xs) (sym all) (no_journal old.held following some none)) unsound, subst HasCheckpointMagic (sym all) (magic_on old.held following magic));
        }
    faulted NotFlow found = absurd found

    pub finds_kept : (result : Result Market StartFault) → IfOk result (FindsKept old new x z) → IfErr result (FindsNone old x z) → FindsStart old.limit before z new result
    finds_kept (Ok market) found none_found = kept market found
    finds_kept (Err fault) found none_found = faulted fault none_found

-- ---- fewer bytes than a magic has were read

module _ (before after : Option (List ℕ)) (room limit : ℕ) (window : WindowState) (fills : Fills (empty_window room limit) window before after) (within : IsWithin window.place (length window.held) window.limit window.over) (few : length window.held < 8) where
  joined : window.held ≡ fills.joined
  joined = ap (λ (w : WindowState). w.held) fills.holds

  place : window.place ≡ 0
  place = ap (λ (w : WindowState). w.place) fills.holds

  same : window.limit ≡ limit
  same = ap (λ (w : WindowState). w.limit) fills.holds

  inside : length window.held ≤ limit
  inside = omega (arith, place, same, within_limit window.place (length window.held) window.limit window.over within)

  past_one : (over : Option InputEnd) (past : List ℕ) → IsPast None over past → length past ≤ 1
  past_one None past none = omega (arith, ap length none)
  past_one (Some Source) past none = omega (arith, ap length none)
  past_one (Some Limit) past one = omega (arith, one)

  few_taken : length (fills.joined ++ fills.past) ≤ limit + 1
  few_taken = omega (arith, inside, ap length joined, length-append fills.joined fills.past, past_one window.over fills.past fills.beyond)

  none_more : (left : Option (List ℕ)) (xs : List ℕ) → IfSome left (λ rest. rest ≡ []) → known xs left ≡ xs
  none_more None xs none = refl
  none_more (Some rest) xs none = ap (λ ys. xs ++ ys) none ∙ append-nil xs

  considered_few : (over : InputEnd) → window.over ≡ Some over → (over ≡ Source → IfSome after (λ left. left ≡ [])) → length (take limit (known (fills.joined ++ fills.past) after)) < 8
  considered_few Source is ended =
      let none : fills.past ≡ [] = subst (λ (o : Option InputEnd). IsPast None o fills.past) is fills.beyond in
      let all : known (fills.joined ++ fills.past) after ≡ fills.joined = none_more after (fills.joined ++ fills.past) (ended refl) ∙ ap (λ xs. fills.joined ++ xs) none ∙ append-nil fills.joined in
      omega (arith, few, ap length joined, ap length all, length-take limit (known (fills.joined ++ fills.past) after))
  considered_few Limit is ended =
      let full : window.place + length window.held ≡ window.limit = subst (λ (o : Option InputEnd). IsWithin window.place (length window.held) window.limit o) is within in
      omega (arith, few, place, same, full, length-take limit (known (fills.joined ++ fills.past) after))

  pub found_few : (over : InputEnd) → window.over ≡ Some over → (over ≡ Source → IfSome after (λ left. left ≡ [])) → AreFound limit before after BeginsOtherwise
  found_few over is ended = record {
    taken = fills.joined ++ fills.past;
    takes = fills.taken;
    few = few_taken;
    are = too_few (take limit (known (fills.joined ++ fills.past) after)) (considered_few over is ended);
  }

  pub taken_few : window.over ≡ None → AreTaken limit before after (BeginsWithNone starts)
  taken_few unended =
      let none : fills.past ≡ [] = subst (λ (o : Option InputEnd). IsPast None o fills.past) unended fills.beyond in
      record {
        taken = fills.joined;
        takes = subst (λ (xs : List ℕ). Takes before after xs) (ap (λ xs. fills.joined ++ xs) none ∙ append-nil fills.joined) fills.taken;
        few = omega (arith, inside, ap length joined);
        are = (too_few fills.joined (omega (arith, few, ap length joined))).0;
      }

-- A source whose checkpoint was read, and its window, which is filled for the magic after it.
use Rattle.std.proofs.Common.{◌≡◌, ◌⊎◌, inl, inr, refl, ℕ, ◌+◌, ◌≤◌, ◌<◌, List, [], ◌∷◌, ◌++◌, Option, Some, None, Result, Err, IfSome, length, take, drop, sym, ap, subst, ◌∙◌, arith, append-nil, append_assoc, length-append, length-drop}
use Rattle.std.proofs.lemmas.List.{take_all, take_at, drop_at}
use Rattle.flow_io.specs.Streams.{Takes, TakesAtMost}
use Rattle.flow_io.specs.Windows.{WindowState, Fills, IsPast, IsWithin}
use Rattle.flow_io.specs.declared.window.InputEnd.{InputEnd}
use Rattle.flow_io.specs.declared.window.InputEnd.TheVariants.{Source, Limit}
use Rattle.flow_io.proofs.Reading.{Takes-more}
use Rattle.wire_records.specs.Records.{longest_record}
use Rattle.wire_records.specs.Grammars.{BeginsWith}
use Rattle.wire_records.specs.Formats.{commands, command_magic_of}
use Rattle.wire_records.proofs.RecordCode.{eight}
use Rattle.file_units.proofs.Gone.{within_limit}
use Rattle.market_rules.specs.Market.{Market}
use Rattle.market_snapshot.specs.Checkpoints.{checkpoint_bytes, IsCheckpoint}
use Rattle.market_history.specs.Histories.{Kept}
use Rattle.market_history.proofs.Starting.{magic_on}
use Rattle.journal_disk.specs.Entries.{framed}
use Rattle.journal_keeping.specs.declared.fault.InputFault.{InputFault}
use Rattle.journal_keeping.specs.declared.fault.InputFault.TheVariants.{Read, Memory, NotFlow}
use Rattle.journal_keeping.specs.Inputs.{IsInCheckpoint}
use Rattle.journal_keeping.specs.Starts.{BeginsOtherwise}
use Rattle.journal_keeping.specs.Beginning.{OpensStart}
use Rattle.journal_keeping.proofs.Starts.{magic_first}
use Rattle.journal_keeping.proofs.Magic.{BreaksOffEarly, short_has_none, prefix_has, at_most}
use Rattle.journal_keeping.proofs.SourceStart.{after_none, after_otherwise, broke_off, in_checkpoint, are_first}

-- the source ended: all of its bytes were taken
all_first : (limit : ℕ) (Are : List ℕ → Type 0) (before after : Option (List ℕ)) (first : List ℕ) → Takes before after first → length first ≤ limit → IfSome after (λ left. left ≡ []) → Are first → IfSome before (λ bytes. Are (take limit bytes))
all_first limit Are None after first takes few none are = tt
all_first limit Are (Some bytes) None first takes few none are = absurd takes
all_first limit Are (Some bytes) (Some left) first takes few none are =
    subst Are (sym (ap (take limit) (takes ∙ ap (λ (l : List ℕ). first ++ l) none ∙ append-nil first) ∙ take_all limit first few)) are

-- the limit was reached: as many bytes were taken
full_first : (limit : ℕ) (Are : List ℕ → Type 0) (before after : Option (List ℕ)) (first past : List ℕ) → Takes before after (first ++ past) → length first ≡ limit → Are first → IfSome before (λ bytes. Are (take limit bytes))
full_first limit Are None after first past takes full are = tt
full_first limit Are (Some bytes) None first past takes full are = absurd takes
full_first limit Are (Some bytes) (Some left) first past takes full are =
    subst Are (sym (ap (take limit) (takes ∙ append_assoc first past left) ∙ take_at first (past ++ left) limit full)) are

none_past : (over : Option InputEnd) (past : List ℕ) → IsPast None over past → (¬ (over ≡ Some Limit)) → past ≡ []
none_past None past beyond other = beyond
none_past (Some Source) past beyond other = beyond
none_past (Some Limit) past beyond other = absurd (other refl)

few_past : (over : Option InputEnd) (past : List ℕ) → IsPast None over past → length past ≤ 1
few_past None past beyond = omega (arith, ap length beyond)
few_past (Some Source) past beyond = omega (arith, ap length beyond)
few_past (Some Limit) past beyond = omega (arith, beyond)

not_limit : (over : Option InputEnd) → over ≡ None → ¬ (over ≡ Some Limit)
not_limit over is e = absurd cc

not_ended : (over : Option InputEnd) → over ≡ Some Source → ¬ (over ≡ Some Limit)
not_ended over is e = absurd cc

-- neither another beginning nor running out of memory is a fault of reading
pub not_read_then : {A : Type 0} (fault : InputFault) → (fault ≡ NotFlow) ⊎ (fault ≡ Memory) → ¬ (◌≡◌ {A = Result A InputFault} (Err fault) (Err Read))
not_read_then fault (inl is) e = absurd cc
not_read_then fault (inr is) e = absurd cc

module _ (market : Market) (old filled : WindowState) (x y : Option (List ℕ)) (fills : Fills old filled x y) (inside : IsWithin filled.place (length filled.held) filled.limit filled.over) (placed : old.place ≡ length (checkpoint_bytes market)) (unended : old.over ≡ None) where
  limited : filled.limit ≡ old.limit
  limited = ap (λ (w : WindowState). w.limit) fills.holds

  place : filled.place ≡ old.place
  place = ap (λ (w : WindowState). w.place) fills.holds

  within : length (checkpoint_bytes market ++ filled.held) ≤ old.limit
  within = omega (arith, placed, place, limited, length-append (checkpoint_bytes market) filled.held, within_limit filled.place (length filled.held) filled.limit filled.over inside)

  beyond : IsPast None filled.over fills.past
  beyond = subst (λ (o : Option InputEnd). IsPast o filled.over fills.past) unended fills.beyond

  joined : (checkpoint_bytes market ++ old.held) ++ (fills.joined ++ fills.past) ≡ (checkpoint_bytes market ++ filled.held) ++ fills.past
  joined = sym (append_assoc (checkpoint_bytes market ++ old.held) fills.joined fills.past)
      ∙ ap (λ (l : List ℕ). l ++ fills.past) (append_assoc (checkpoint_bytes market) old.held fills.joined ∙ ap (λ (l : List ℕ). checkpoint_bytes market ++ l) (sym (ap (λ (w : WindowState). w.held) fills.holds)))

  short : length filled.held < 8 → (body : List ℕ) → ¬ BeginsWith commands.magics filled.held market.version body
  short few body begins = short_has_none market.version filled.held body few begins

  short_otherwise : IsCheckpoint market (checkpoint_bytes market) → length filled.held < 8 → BeginsOtherwise (checkpoint_bytes market ++ filled.held)
  short_otherwise one few = after_otherwise market filled.held one (short few)

  module _ (before : Option (List ℕ)) (one : IsCheckpoint market (checkpoint_bytes market)) (takes : Takes before x (checkpoint_bytes market ++ old.held)) where
    all : Takes before y ((checkpoint_bytes market ++ filled.held) ++ fills.past)
    all = subst (λ (l : List ℕ). Takes before y l) joined (Takes-more before x y (checkpoint_bytes market ++ old.held) (fills.joined ++ fills.past) takes fills.taken)

    taken : (¬ (filled.over ≡ Some Limit)) → Takes before y (checkpoint_bytes market ++ filled.held)
    taken other = subst (λ (l : List ℕ). Takes before y l) (ap (λ (l : List ℕ). (checkpoint_bytes market ++ filled.held) ++ l) (none_past filled.over fills.past beyond other) ∙ append-nil (checkpoint_bytes market ++ filled.held)) all

    -- one byte past the limit is taken at most
    pub few_after : TakesAtMost before y (old.limit + 1)
    few_after = at_most before y ((checkpoint_bytes market ++ filled.held) ++ fills.past) (old.limit + 1) all
        (omega (arith, length-append (checkpoint_bytes market ++ filled.held) fills.past, few_past filled.over fills.past beyond, within))

    -- a read failed before eight bytes were held
    pub unread_after : filled.over ≡ None → length filled.held < 8 → IfSome before (BreaksOffEarly old.limit y)
    unread_after open_still few = broke_off old.limit before y (checkpoint_bytes market ++ filled.held) (taken (not_limit filled.over open_still)) within
        (magic_on (checkpoint_bytes market) filled.held (magic_first market)) (after_none market filled.held one (short few))

    -- the source ended before eight bytes were held
    pub ended_after : filled.over ≡ Some Source → length filled.held < 8 → IfSome y (λ left. left ≡ []) → IfSome before (λ bytes. BeginsOtherwise (take old.limit bytes))
    ended_after over few none = all_first old.limit BeginsOtherwise before y (checkpoint_bytes market ++ filled.held) (taken (not_ended filled.over over)) within none (short_otherwise one few)

    -- the limit was reached before eight bytes were held
    pub limit_after : filled.over ≡ Some Limit → length filled.held < 8 → IfSome before (λ bytes. BeginsOtherwise (take old.limit bytes))
    limit_after over few =
        let full : filled.place + length filled.held ≡ filled.limit = subst (λ (o : Option InputEnd). IsWithin filled.place (length filled.held) filled.limit o) over inside in
        full_first old.limit BeginsOtherwise before y (checkpoint_bytes market ++ filled.held) fills.past all
        (omega (arith, full, placed, place, limited, length-append (checkpoint_bytes market) filled.held)) (short_otherwise one few)

    -- no magic of the checkpoint's version follows
    pub other_after : filled.over ≡ None → 8 ≤ length filled.held → ((body : List ℕ) → ¬ BeginsWith commands.magics filled.held market.version body) → IfSome before (λ bytes. BeginsOtherwise (take old.limit bytes))
    other_after open_still some none = are_first old.limit BeginsOtherwise before y (checkpoint_bytes market ++ filled.held) (taken (not_limit filled.over open_still)) within
        (λ more. subst BeginsOtherwise (sym (append_assoc (checkpoint_bytes market) filled.held more))
        (after_otherwise market (filled.held ++ more) one (λ body begins. none (drop 8 filled.held) (prefix_has market.version filled.held more body some begins.1))))

    -- memory ran out for the first entry
    pub out_after : filled.over ≡ None → IsInCheckpoint old.limit before y
    out_after open_still = in_checkpoint old.limit before y (checkpoint_bytes market ++ filled.held) (taken (not_limit filled.over open_still)) within (magic_on (checkpoint_bytes market) filled.held (magic_first market))

    -- the magic of the checkpoint's version follows
    pub opened_after : filled.over ≡ None → old.room ≡ longest_record → (window : WindowState) (body : List ℕ) → BeginsWith commands.magics filled.held market.version body
        → window ≡ record filled { held = drop 8 filled.held; place = filled.place + 8 } → length filled.held ≤ filled.room
        → (now : Market) (stored : List ℕ) → now ≡ market → stored ≡ framed (checkpoint_bytes market) ++ 0 ∷ [] → OpensStart old.limit now stored window before y
    opened_after open_still wide window body magic advanced few now stored same stored_so =
        let magic_of = command_magic_of market.version in
        let prefix : filled.held ≡ magic_of ++ window.held = magic.1 ∙ ap (λ (l : List ℕ). magic_of ++ l) (sym (ap (λ (w : WindowState). w.held) advanced ∙ ap (drop 8) magic.1 ∙ drop_at magic_of body 8 (eight market.version))) in
        let room : filled.room ≡ longest_record = ap (λ (w : WindowState). w.room) fills.holds ∙ wide in
        record {
          begin = Kept market;
          following = record {
            limited = ap (λ (w : WindowState). w.limit) advanced ∙ limited;
            place = omega (arith, ap (λ (w : WindowState). w.place) advanced, place, placed, length-append (checkpoint_bytes market) magic_of, eight market.version);
            room = ap (λ (w : WindowState). w.room) advanced ∙ room;
            over = ap (λ (w : WindowState). w.over) advanced ∙ open_still;
            first = checkpoint_bytes market ++ filled.held;
            takes = taken (not_limit filled.over open_still);
            magic = (one, ap (λ (l : List ℕ). checkpoint_bytes market ++ l) prefix ∙ sym (append_assoc (checkpoint_bytes market) magic_of window.held));
            few = within;
            held = omega (arith, few, room, ap (λ (w : WindowState). length w.held) advanced, length-drop 8 filled.held);
          };
          market_is = same;
          stored_is = stored_so;
        }

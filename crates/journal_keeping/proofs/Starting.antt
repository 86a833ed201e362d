-- A disk and an input that are opened, or why nothing was served, whatever the input is.
use Rattle.std.proofs.Common.{◌≡◌, ◌⊎◌, inl, inr, ℕ, ◌+◌, ◌*◌, ◌≤◌, ◌^◌, List, [], ◌∷◌, ◌++◌, Option, Some, None, IfSome, IsSome, length, map, refl, sym, ap, subst, ◌∙◌, arith, length-append}
use Rattle.flow_io.specs.Streams.{Takes, TakesAtMost}
use Rattle.flow_io.specs.Windows.{WindowState}
use Rattle.wire_records.specs.Records.{Record}
use Rattle.wire_records.specs.Commands.{Pair}
use Rattle.wire_records.specs.declared.version.Version.{Version}
use Rattle.flow_orders.specs.Outcomes.{Outcome}
use Rattle.journal_records.specs.Formats.{records_of}
use Rattle.market_rules.specs.Market.{Market}
use Rattle.market_snapshot.specs.Checkpoints.{checkpoint_bytes}
use Rattle.market_history.specs.Histories.{Start, Empty, Kept, market_of, CanStart}
use Rattle.file_units.proofs.Gone.{went_well}
use Rattle.disk_edge.specs.Disks.{DiskState, IsDisk, AtEachMoment}
use Rattle.disk_edge.specs.Images.{LeavesOnly}
use Rattle.disk_edge.proofs.Moments.{weaker, then_more, at_the_end}
use Rattle.journal_disk.specs.Entries.{IsHead, framed, IsNewDisk, StandsFor, Keeps}
use Rattle.journal_disk.specs.Lengths.{HasAtMost, LeavesAtMost, ReachesAtMost}
use Rattle.journal_disk.specs.Looking.{OnlyLooks}
use Rattle.journal_disk.specs.Recovering.{IsFound}
use Rattle.journal_disk.proofs.Entries.{length-framed}
use Rattle.journal_disk.proofs.GoingOn.{looks_none, looks_more}
use Rattle.journal_disk.proofs.Lengths.{reach_looks}
use Rattle.journal_keeping.specs.declared.fault.OpenFault.{OpenFault}
use Rattle.journal_keeping.specs.declared.fault.InputFault.{InputFault}
use Rattle.journal_keeping.specs.declared.fault.BeginFault.{BeginFault}
use Rattle.journal_keeping.specs.declared.fault.BeginFault.TheVariants.{Open, Input, Make}
use Rattle.journal_keeping.specs.Inputs.{InputStarts, InputBegins}
use Rattle.journal_keeping.specs.Taking.{InputFormat, IsNearStart, NotTaken, IsAfterStart}
use Rattle.journal_keeping.specs.Starts.{version_of, head_of}
use Rattle.journal_keeping.specs.Keeping.{IsKeptJournal, HoldsLegal, GoesOnIn}
use Rattle.journal_keeping.specs.Openings.{OpensAs, KeepNone}
use Rattle.journal_keeping.specs.Lengths.{GrowsAtMost, BringsAtMost}
use Rattle.journal_keeping.specs.Making.{IsMadeAfterStart}
use Rattle.journal_keeping.specs.Beginning.{IsBegun, IsKeptOn, IsStored, OpensNot, TakesStart, NotBegun, OpensSafely, HasNotBegun, HasBegun}
use Rattle.journal_keeping.proofs.Auditing.{none_read}
use Rattle.journal_keeping.proofs.Begun.{Opens, looks_first, looks_alone, looked_legal, opened_old, new_again, makes_new, none_kept_on, none_new}
use Rattle.journal_keeping.proofs.Counts.{if_some}
use Rattle.journal_keeping.proofs.Lengths.{left_less}
use Rattle.journal_keeping.proofs.Magic.{at_most, none_taken}
use Rattle.journal_keeping.proofs.Making.{each_some, kept_not_new, looked_first}
use Rattle.journal_keeping.proofs.ShortCheckpoints.{starts_begin_files}
use Rattle.journal_keeping.proofs.Starts.{version_is}

abbrev Pairs : Type 0
Pairs = List (Pair Record Outcome)

none_some : (bytes : List ℕ) → ◌≡◌ {A = Option (List ℕ)} None (Some bytes) → ⊥
none_some bytes e = absurd cc

module _ (starts : InputStarts) where
  -- ---- how the call goes on

  -- the old entries of a disk are a valid journal
  pub opens_journal : (held : List ℕ) (begin input : Start) (old : Pairs) (m : Market) → CanStart input → OpensAs starts held begin old m input → IsKeptJournal begin old m
  opens_journal held begin input old m can (inl legal) = legal.0.2
  opens_journal held begin input old m can (inr new) = subst (λ (l : Pairs). IsKeptJournal begin l m) (sym new.1) (none_read begin m (subst CanStart new.3 can) new.2)

  -- a disk that was begun can be served on
  pub can_serve : (content now : Option (List ℕ)) (begin input : Start) (m : Market) (count place : ℕ) (mid : DiskState) → CanStart input → (IsSome now → IsSome content) → IfSome content (λ held. IsBegun starts held begin input m count place mid)
      → IfSome now (λ _. (w : Start) × (old : Pairs) × IsKeptJournal w old m × Keeps (head_of w) (map records_of old) place mid)
  can_serve content None begin input m count place mid can told begun = tt
  can_serve None (Some bytes) begin input m count place mid can told begun = absurd (went_well (told refl))
  can_serve (Some held) (Some bytes) begin input m count place mid can told begun = (begin, begun.0, opens_journal held begin input begun.0 m can begun.1, begun.3)

  -- a disk that keeps no valid journal wasn't opened
  not_begun_none : (held : List ℕ) (begin input : Start) (old : Pairs) (m : Market) → OpensAs starts held begin old m input → ¬ KeepNone held
  not_begun_none held begin input old m (inl legal) none = none.1 begin old m legal.0
  not_begun_none held begin input old m (inr new) none = none.0 new.0

  pub none_begun : (content : Option (List ℕ)) (begin input : Start) (m : Market) (count place : ℕ) (mid : DiskState) (P : Type 0) → IfSome content (λ held. IsBegun starts held begin input m count place mid) → IfSome content (λ held. KeepNone held → P)
  none_begun None begin input m count place mid P begun = tt
  none_begun (Some held) begin input m count place mid P begun = λ none. absurd (not_begun_none held begin input begun.0 m begun.1 none)

module _ (format : InputFormat) (limit : ℕ) where
  -- where a disk keeps no valid journal, opening it failed
  pub none_open : (held : List ℕ) (content left : Option (List ℕ)) (end : DiskState) (fault : BeginFault) → KeepNone held → NotBegun format limit held content left end fault → (of : OpenFault) × (fault ≡ Open of)
  none_open held content left end (Open of) none not = (of, refl)
  none_open held content left end (Input of) none (inl kept) = absurd (none.1 kept.0 kept.1 kept.2 kept.3)
  none_open held content left end (Input of) none (inr new) = absurd (none.0 new.0)
  none_open held content left end Make none not = absurd (none.0 not)

  module _ (start : DiskState) (v : Start) (old : Pairs) (market : Market) (holds : HoldsLegal start v old market) where
    -- how the journal goes on, with the old entries
    begun_is : (content : Option (List ℕ)) (held : List ℕ) (next : DiskState) (of input : Start) (m : Market) (count place : ℕ) → start.content ≡ Some held → CanStart input → InputBegins format.starts limit content input → IsBegun format.starts held of input m count place next
        → GoesOnIn format.starts limit content start v market of m input × IsKeptJournal of old m × (count ≡ length old) × Keeps (head_of of) (map records_of old) place next
    begun_is content held next of input m count place told starts begins (other, inl legal, counted, at) =
        let same = opened_old start v old market holds held told of other m legal.0 in (
          inl (sym same.0, sym same.2, subst (λ (x : Start). input ≡ Empty (version_of x)) (sym same.0) legal.1),
          subst (λ (l : Pairs). IsKeptJournal of l m) (sym same.1) legal.0.2,
          counted ∙ ap length (sym same.1),
          subst (λ (l : Pairs). Keeps (head_of of) (map records_of l) place next) (sym same.1) at,
        )
    begun_is content held next of input m count place told starts begins (other, inr new, counted, at) =
        let none = new_again start v old market holds held told new.0.0 in (
          inr (subst (λ (o : Option (List ℕ)). IfSome o IsNewDisk) (sym told) new.0.0, new.2, new.3, new.4, subst (λ (x : Start). InputBegins format.starts limit content x) new.3 begins),
          subst (λ (l : Pairs). IsKeptJournal of l m) (sym none) (none_read of m (subst CanStart new.3 starts) new.2),
          counted ∙ ap length (new.1 ∙ sym none),
          subst (λ (l : Pairs). Keeps (head_of of) (map records_of l) place next) (new.1 ∙ sym none) at,
        )

    pub begun_known : (content : Option (List ℕ)) (next : DiskState) (of input : Start) (m : Market) (count place : ℕ) → CanStart input → InputBegins format.starts limit content input → IfSome start.content (λ held. IsBegun format.starts held of input m count place next)
        → GoesOnIn format.starts limit content start v market of m input × IsKeptJournal of old m × (count ≡ length old) × Keeps (head_of of) (map records_of old) place next
    begun_known content next of input m count place starts begins begun =
        begun_is content holds.bytes next of input m count place holds.told starts begins (subst (λ (o : Option (List ℕ)). IfSome o (λ (held : List ℕ). IsBegun format.starts held of input m count place next)) holds.told begun)

    -- opening that leaves the old entries where they are is safe
    safe_kept : (content : Option (List ℕ)) (next : DiskState) → Opens v start next old → OpensSafely format.starts limit content start next v old market
    safe_kept content next opens = record {
      of = v;
      from = market;
      input = Empty (version_of v);
      goes = inl (refl, refl, refl);
      journal = holds.journal;
      moments = opens;
    }

    -- and so is making a new disk one that begins as the input does
    safe_new : (content : Option (List ℕ)) (next : DiskState) (begin : Start) → IfSome start.content (λ held. IsFound None held start) → CanStart begin → format.starts.MayBegin begin → InputBegins format.starts limit content begin → Opens begin start next old
        → OpensSafely format.starts limit content start next v old market
    safe_new content next begin found starts may begins opens =
        let is = subst (λ (o : Option (List ℕ)). IfSome o (λ (held : List ℕ). IsFound None held start)) holds.told found in
        let none = new_again start v old market holds holds.bytes holds.told is.0 in
        record {
          of = begin;
          from = market_of begin;
          input = begin;
          goes = inr (subst (λ (o : Option (List ℕ)). IfSome o IsNewDisk) (sym holds.told) is.0, refl, refl, may, begins);
          journal = subst (λ (l : Pairs). IsKeptJournal begin l (market_of begin)) (sym none) (none_read begin (market_of begin) starts refl);
          moments = opens;
        }

  -- the disk was only looked at before
  goes_first : (content : Option (List ℕ)) (start mid : DiskState) (looks : OnlyLooks start mid) (begin : Start) (market : Market) (of : Start) (from : Market) (input : Start) → GoesOnIn format.starts limit content mid begin market of from input → GoesOnIn format.starts limit content start begin market of from input
  goes_first content start mid looks begin market of from input (inl same) = inl same
  goes_first content start mid looks begin market of from input (inr new) = inr (subst (λ (o : Option (List ℕ)). IfSome o IsNewDisk) looks.content new.0, new.1, new.2, new.3, new.4)

  safe_first : (content : Option (List ℕ)) (start mid next : DiskState) (begin : Start) (old : Pairs) (market : Market) → OnlyLooks start mid → OpensSafely format.starts limit content mid next begin old market → OpensSafely format.starts limit content start next begin old market
  safe_first content start mid next begin old market looks safe = record {
    of = safe.of;
    from = safe.from;
    input = safe.input;
    goes = goes_first content start mid looks begin market safe.of safe.from safe.input safe.goes;
    journal = safe.journal;
    moments = looks_first safe.of old start mid next looks safe.moments;
  }

  -- ---- how long the disk is

  grows_short : (content : Option (List ℕ)) (start end : DiskState) → ReachesAtMost 9 start end → GrowsAtMost 2 limit content start end
  grows_short content start end reach = λ most count nine short brings.
      weaker start end (HasAtMost most) (HasAtMost (most + 2 * count)) (λ image le. omega (arith, le)) (reach most nine short)

  grows_first : (content : Option (List ℕ)) (start mid end : DiskState) → IsDisk mid → OnlyLooks start mid → GrowsAtMost 2 limit content mid end → GrowsAtMost 2 limit content start end
  grows_first content start mid end is_disk looks grows = λ most count nine short brings.
      let there = weaker start mid start.images (HasAtMost most) short looks.moments in
      then_more start mid end (HasAtMost (most + 2 * count)) (weaker start mid (HasAtMost most) (HasAtMost (most + 2 * count)) (λ image le. omega (arith, le)) there)
      (grows most count nine (at_the_end start mid (HasAtMost most) is_disk there) brings)

  within_first : (size : ℕ) (start mid end : DiskState) → IsDisk mid → OnlyLooks start mid → ((most : ℕ) → 9 ≤ most → LeavesAtMost most mid → AtEachMoment mid end (HasAtMost (most + size))) → (most : ℕ) → 9 ≤ most → LeavesAtMost most start → AtEachMoment start end (HasAtMost (most + size))
  within_first size start mid end is_disk looks within most nine short =
      let there = weaker start mid start.images (HasAtMost most) short looks.moments in
      then_more start mid end (HasAtMost (most + size)) (weaker start mid (HasAtMost most) (HasAtMost (most + size)) (λ image le. omega (arith, le)) there)
      (within most nine (at_the_end start mid (HasAtMost most) is_disk there))

  short_within : (size : ℕ) (start end : DiskState) → ReachesAtMost 9 start end → (most : ℕ) → 9 ≤ most → LeavesAtMost most start → AtEachMoment start end (HasAtMost (most + size))
  short_within size start end reach most nine short = weaker start end (HasAtMost most) (HasAtMost (most + size)) (λ image le. omega (arith, le)) (reach most nine short)

  -- ---- what was taken of the input

  module _ (input : Start) (window : WindowState) (before after : Option (List ℕ)) (following : IsAfterStart format limit input window before after) where
    size : length (format.encode input ++ window.held) ≡ length (format.encode input) + length window.held
    size = length-append (format.encode input) window.held

    near_start : IfSome before (λ bytes. IsNearStart format limit bytes after)
    near_start = by_cases before after following.takes following.begins
      where
        by_cases : (b a : Option (List ℕ)) → Takes b a (format.encode input ++ window.held) → InputBegins format.starts limit b input → IfSome b (λ bytes. IsNearStart format limit bytes a)
        by_cases None a takes begins = tt
        by_cases (Some bytes) None takes begins = absurd takes
        by_cases (Some bytes) (Some left) takes begins = (
          length (format.encode input ++ window.held),
          sym (ap length takes ∙ length-append (format.encode input ++ window.held) left),
          input,
          begins.0,
          begins.1,
          omega (arith, following.near, size),
        )

    few_taken : TakesAtMost before after (limit + 1)
    few_taken = at_most before after (format.encode input ++ window.held) (limit + 1) following.takes (omega (arith, size, following.place, following.limited, following.within))

    -- the beginning is among the bytes that a source brings
    pub brought : (count : ℕ) → BringsAtMost limit before count → length (format.encode input) ≤ count
    brought count (inl up) = omega (arith, up, following.place, following.limited, following.within)
    brought count (inr has) =
        let less = left_less (format.encode input ++ window.held) before after has.0 following.takes has.1 in
        omega (arith, has.2, less.2, size)

  -- ---- a disk of a version

  module _ (version : Version) (start next : DiskState) (found : IfSome start.content (λ held. IsFound (Some version) held start))
      (moments : (was : Start) (old : Pairs) (market : Market) → HoldsLegal start was old market → Opens was start next old) (reach : ReachesAtMost 9 start next) where
    -- it was opened no further
    pub fails_open : (content : Option (List ℕ)) (fault : OpenFault) → IfSome start.content (λ held. OpensNot held next fault) → IfSome start.content (λ held. KeepNone held → OnlyLooks start next)
        → HasNotBegun format limit start next content content (Open fault)
    fails_open content fault why looks = record {
      refused = why;
      unread = refl;
      taken = none_taken content (limit + 1);
      looks = looks;
      safe = λ was old m holds. safe_kept start was old m holds content next (moments was old m holds);
      lengths = grows_short content start next reach;
      made = kept_not_new start.content (Some version) version start _ refl found;
    }

    module _ (before after : Option (List ℕ)) (m : Market) (count place : ℕ) (kept : IfSome start.content (λ held. IsKeptOn version held m count place next)) where
      -- the input doesn't begin as it should
      pub fails_kept : (fault : InputFault) → NotTaken format limit (Some version) before after fault → TakesAtMost before after (limit + 1) → HasNotBegun format limit start next before after (Input fault)
      fails_kept fault why few = record {
        refused = by_cases start.content kept;
        unread = (Some version, why);
        taken = few;
        looks = none_kept_on start.content version m count place next _ kept;
        safe = λ was old m holds. safe_kept start was old m holds before next (moments was old m holds);
        lengths = grows_short before start next reach;
        made = kept_not_new start.content (Some version) version start _ refl found;
      }
        where
          by_cases : (told : Option (List ℕ)) → IfSome told (λ held. IsKeptOn version held m count place next) → IfSome told (λ held. NotBegun format limit held before after next (Input fault))
          by_cases None is = tt
          by_cases (Some held) is = inl (is.0, is.1, m, is.3, subst (λ (v : Version). NotTaken format limit (Some v) before after fault) (sym is.2) why, (place, is.5))

      pub kept_begun : (window : WindowState) → IsAfterStart format limit (Empty version) window before after → (IsSome next.content → IsSome start.content) → m.next_order ≤ place + 2 ^ 63 → count ≤ place → place ≤ 2 ^ 60
          → HasBegun format limit start next window before after m count place
      kept_begun window following told orders counted few = by_cases start.content refl kept
        where
          by_cases : (content : Option (List ℕ)) → start.content ≡ content → IfSome content (λ held. IsKeptOn version held m count place next) → HasBegun format limit start next window before after m count place
          by_cases None is on = record {
            begin = Empty version;
            input = Empty version;
            following = following;
            begun = subst (λ (o : Option (List ℕ)). IfSome o (λ held. IsBegun format.starts held (Empty version) (Empty version) m count place next)) (sym is) tt;
            moments = λ was old market holds. absurd (none_some holds.bytes (sym is ∙ holds.told));
            lengths = short_within (2 * length (format.encode (Empty version))) start next reach;
            told = told;
            orders = orders;
            counted = counted;
            few = few;
          }
          by_cases (Some held) is on = record {
            begin = on.0;
            input = Empty version;
            following = following;
            begun = subst (λ (o : Option (List ℕ)). IfSome o (λ held. IsBegun format.starts held on.0 (Empty version) m count place next)) (sym is) (on.1, inl (on.3, ap (λ (u : Version). Empty u) (sym on.2)), on.4, on.5);
            moments = λ was old market holds. subst (λ (b : Start). Opens b start next old) (opened_old start was old market holds held is on.0 on.1 m on.3).0 (moments was old market holds);
            lengths = short_within (2 * length (format.encode (Empty version))) start next reach;
            told = told;
            orders = orders;
            counted = counted;
            few = few;
          }

  -- ---- a new disk

  -- the disk was only looked at
  pub fails_looked : (start next : DiskState) (content : Option (List ℕ)) (fault : OpenFault) → OnlyLooks start next → IfSome start.content (λ held. OpensNot held next fault) → HasNotBegun format limit start next content content (Open fault)
  fails_looked start next content fault looks why = record {
    refused = why;
    unread = refl;
    taken = none_taken content (limit + 1);
    looks = each_some start.content _ (λ (held : List ℕ) none. looks);
    safe = λ was old m holds. safe_kept start was old m holds content next (looks_alone was old start next looks);
    lengths = grows_short content start next (reach_looks 9 start next looks);
    made = each_some start.content _ (λ (held : List ℕ) new. inl looks);
  }

  -- the input doesn't begin as it should
  pub fails_new : (start : DiskState) (before after : Option (List ℕ)) (fault : InputFault) → IsDisk start → IfSome start.content (λ held. IsFound None held start) → NotTaken format limit None before after fault → TakesAtMost before after (limit + 1)
      → HasNotBegun format limit start start before after (Input fault)
  fails_new start before after fault is_disk found why few =
      let looks = looks_none start is_disk in
      record {
        refused = if_some start.content _ _ (λ (held : List ℕ) is. inr ((is.0, is.1), is.2, is.3, why)) found;
        unread = (None, why);
        taken = few;
        looks = each_some start.content _ (λ (held : List ℕ) none. looks);
        safe = λ was old m holds. safe_kept start was old m holds before start (looks_alone was old start start looks);
        lengths = grows_short before start start (reach_looks 9 start start looks);
        made = each_some start.content _ (λ (held : List ℕ) new. inl looks);
      }

  module _ (market : Market) (stored : List ℕ) (window : WindowState) (before after : Option (List ℕ)) (takes : TakesStart format limit market stored window before after) where
    lawful : IsHead (head_of takes.begin)
    lawful = starts_begin_files takes.begin takes.following.starts

    -- a checkpoint's length fits into four bytes
    pub stored_small : length stored ≤ 2 ^ 33
    stored_small = by takes.begin takes.stored_is lawful
      where
        by : (begin : Start) → IsStored begin stored → IsHead (head_of begin) → length stored ≤ 2 ^ 33
        by (Empty version) is head = omega (arith, ap length is)
        by (Kept of) is head = omega (arith, ap length is, length-append (framed (checkpoint_bytes of)) (0 ∷ []), length-framed (checkpoint_bytes of), head.1)

    module _ (start end : DiskState) (version : Version) (is_version : version ≡ market.version) (found : IfSome start.content (λ held. IsFound None held start))
        (moments : (bytes : List ℕ) (begin : Start) → start.content ≡ Some bytes → LeavesOnly start.images bytes → version_of begin ≡ version → IsHead (head_of begin) → IsStored begin stored
        → AtEachMoment start end (λ image. IsNewDisk image ⊎ StandsFor (head_of begin) [] image))
        (reach : ReachesAtMost (9 + length stored) start end) where
      of : version_of takes.begin ≡ version
      of = sym (version_is takes.begin) ∙ ap (λ (m : Market). m.version) (sym takes.market_is) ∙ sym is_version

      opens : (was : Start) (old : Pairs) (m : Market) → HoldsLegal start was old m → Opens takes.begin start end old
      opens was old m holds = makes_new start was old m holds end takes.begin found (λ bytes told only. moments bytes takes.begin told only of lawful takes.stored_is)

      within : (most : ℕ) → 9 ≤ most → LeavesAtMost most start → AtEachMoment start end (HasAtMost (most + 2 * length (format.encode takes.begin)))
      within most nine short = reach (most + 2 * length (format.encode takes.begin)) (omega (arith, nine, takes.few)) (λ image left. omega (arith, short image left))

      -- the disk begins as the input does
      pub new_begun : (session : Market) (place : ℕ) → session ≡ market → IfSome start.content (λ _. (begin : Start) → version_of begin ≡ version → IsHead (head_of begin) → IsStored begin stored → Keeps (head_of begin) [] place end)
          → (IsSome end.content → IsSome start.content) → session.next_order ≤ place + 2 ^ 63 → place ≤ 2 ^ 60 → HasBegun format limit start end window before after session 0 place
      new_begun session place same keeps told orders few = record {
        begin = takes.begin;
        input = takes.begin;
        following = takes.following;
        begun = by_cases start.content found keeps;
        moments = opens;
        lengths = within;
        told = told;
        orders = orders;
        counted = omega arith;
        few = few;
      }
        where
          by_cases : (content : Option (List ℕ)) → IfSome content (λ held. IsFound None held start) → IfSome content (λ _. (begin : Start) → version_of begin ≡ version → IsHead (head_of begin) → IsStored begin stored → Keeps (head_of begin) [] place end)
              → IfSome content (λ held. IsBegun format.starts held takes.begin takes.begin session 0 place end)
          by_cases None is kept = tt
          by_cases (Some held) is kept = ([], inr ((is.0, is.1), refl, same ∙ takes.market_is, refl, takes.may), refl, kept takes.begin of lawful takes.stored_is)

      -- making it failed
      pub fails_make : HasNotBegun format limit start end before after Make
      fails_make = record {
        refused = if_some start.content _ _ (λ (held : List ℕ) is. (is.0, is.1)) found;
        unread = near_start takes.begin window before after takes.following;
        taken = few_taken takes.begin window before after takes.following;
        looks = none_new start.content start _ found;
        safe = λ was old m holds. safe_new start was old m holds before end takes.begin found takes.following.starts takes.may takes.following.begins (opens was old m holds);
        lengths = λ most count nine short brings.
            let few = brought takes.begin window before after takes.following count brings in
            weaker start end (HasAtMost (most + 2 * length (format.encode takes.begin))) (HasAtMost (most + 2 * count)) (λ image le. omega (arith, le, few)) (within most nine short);
        made = each_some start.content _ (λ (held : List ℕ) new. inr takes.following.shown);
      }

  -- ---- the disk was only looked at before

  module _ (start mid end : DiskState) (before after : Option (List ℕ)) (looks : OnlyLooks start mid) (is_disk : IsDisk mid) where
    pub fails_first : (fault : BeginFault) → HasNotBegun format limit mid end before after fault → HasNotBegun format limit start end before after fault
    fails_first fault fails = record {
      refused = subst (λ (o : Option (List ℕ)). IfSome o (λ (held : List ℕ). NotBegun format limit held before after end fault)) looks.content fails.refused;
      unread = fails.unread;
      taken = fails.taken;
      looks = subst (λ (o : Option (List ℕ)). IfSome o (λ (held : List ℕ). KeepNone held → OnlyLooks start end)) looks.content
          (if_some mid.content _ _ (λ (held : List ℕ) on none. looks_more start mid end looks (on none)) fails.looks);
      safe = λ was old m holds. safe_first before start mid end was old m looks (fails.safe was old m (looked_legal was old m start mid holds looks));
      lengths = grows_first before start mid end is_disk looks fails.lengths;
      made = subst (λ (o : Option (List ℕ)). IfSome o (λ (held : List ℕ). IsMadeAfterStart format.starts limit held start end before after)) looks.content
          (if_some mid.content _ _ (λ (held : List ℕ) on new. looked_first start mid end _ looks (on new)) fails.made);
    }

    pub begun_first : (window : WindowState) (m : Market) (count place : ℕ) → HasBegun format limit mid end window before after m count place → HasBegun format limit start end window before after m count place
    begun_first window m count place begun = record {
      begin = begun.begin;
      input = begun.input;
      following = begun.following;
      begun = subst (λ (o : Option (List ℕ)). IfSome o (λ held. IsBegun format.starts held begun.begin begun.input m count place end)) looks.content begun.begun;
      moments = λ was old market holds. looks_first begun.begin old start mid end looks (begun.moments was old market (looked_legal was old market start mid holds looks));
      lengths = within_first (2 * length (format.encode begun.input)) start mid end is_disk looks begun.lengths;
      told = subst (λ (o : Option (List ℕ)). IsSome end.content → IsSome o) looks.content begun.told;
      orders = begun.orders;
      counted = begun.counted;
      few = begun.few;
    }

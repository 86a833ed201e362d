-- How many bytes a crash may leave while lines are answered.
use Rattle.std.proofs.Common.{◌≡◌, inl, inr, ℕ, ◌+◌, ◌-◌, ◌*◌, ◌≤◌, List, [], ◌++◌, Option, None, Some, length, length-append, take, refl, ap, subst, ◌∙◌, arith}
use Rattle.std.proofs.lemmas.List.{append-nil, length-take-le}
use Rattle.market_rules.specs.Market.{Market}
use Rattle.flow_io.specs.Streams.{Takes}
use Rattle.flow_io.specs.Windows.{WindowState}
use Rattle.flow_io.proofs.Reading.{Takes-more}
use Rattle.disk_edge.specs.Disks.{DiskState, IsDisk}
use Rattle.journal_disk.specs.Lengths.{ReachesAtMost}
use Rattle.journal_disk.proofs.Lengths.{reach_wider, reach_more}
use Rattle.line_records.specs.Lines.{ended_by_feeds}
use Rattle.journal_keeping.specs.Lengths.{longest_stored_entry, HasYetAtMost}
use Rattle.input_lines.specs.Finding.{FindsNext}
use Rattle.input_lines.specs.declared.lines.Next.TheVariants as next
use Rattle.journal_keeping.specs.Outputs.{Output}
use Rattle.line_keeping.specs.Private.{HasGone, Reaches}

-- what was taken of known bytes is no longer than they are
pub takes_few : (before after : Option (List ℕ)) (l bytes : List ℕ) → before ≡ Some l → Takes before after bytes → length bytes ≤ length l
takes_few None after l bytes e takes = absurd cc
takes_few (Some b) None l bytes e takes = absurd takes
takes_few (Some b) (Some a) l bytes e takes =
    let same : b ≡ l = cc in
    omega (arith, ap length same, ap length takes, length-append bytes a)

-- a line that was found is as long as it was said
pub line_size : (old new : WindowState) (before after : Option (List ℕ)) (size : ℕ) (held : List ℕ) → held ≡ new.held → FindsNext old new before after (next.Line size) → length (take size held) ≡ size
line_size old new before after size held same finds = length-take-le size held (omega (arith, finds.is.2, ap length (same ∙ finds.is.0)))

module _ (first : WindowState) (rest : Option (List ℕ)) (old : Market) (count from : ℕ) (start : DiskState) (out : Output)
    (now : WindowState) (left : Option (List ℕ)) (market : Market) (entries place lines : ℕ) (disk : DiskState) (later : Output) (gone : HasGone first now rest left old market count entries from place lines start disk out later) where
  -- the bytes up to here, and some more that were taken, are within the count
  covers : (most n : ℕ) (after : Option (List ℕ)) (joined : List ℕ) → Takes left after joined → n ≤ length (now.held ++ joined) → now.place + n ≤ now.limit → HasYetAtMost most first rest → (now.place - first.place) + n ≤ most
  covers most n after joined takes inside within (inl far) = omega (arith, far, within, gone.place_is, gone.limit)
  covers most n after joined takes inside within (inr few) =
      let taken = takes_few rest after few.0 (gone.taken ++ joined) few.1 (Takes-more rest left after gone.taken joined gone.takes takes) in
      omega (arith, taken, inside, few.2, gone.place_is, ap length gone.whole, length-append first.held gone.taken, length-append (ended_by_feeds gone.read) now.held, length-append gone.taken joined, length-append now.held joined)

  Takes-nothing : (told : Option (List ℕ)) → Takes told told []
  Takes-nothing None = tt
  Takes-nothing (Some bytes) = refl

  module _ (reaches : Reaches first now from place start disk) where
    pub reach_end : (most : ℕ) → HasYetAtMost most first rest → ReachesAtMost (from + (longest_stored_entry * most + 1)) start disk
    reach_end most yet =
        let few = covers most 0 left [] (Takes-nothing left) (omega arith) (omega (arith, gone.is_open.within)) yet in
        reach_wider (from + (longest_stored_entry * (now.place - first.place) + 1)) (from + (longest_stored_entry * most + 1)) start disk (omega (arith, few)) reaches.1

    pub reach_line : (most size : ℕ) (after : Option (List ℕ)) (joined past : List ℕ) (disk2 : DiskState) → past ≡ [] → Takes left after (joined ++ past) → size ≤ length (now.held ++ joined) → now.place + length (now.held ++ joined) ≤ now.limit → IsDisk disk
        → ReachesAtMost (place + (longest_stored_entry * size + 1)) disk disk2 → HasYetAtMost most first rest → ReachesAtMost (from + (longest_stored_entry * most + 1)) start disk2
    reach_line most size after joined past disk2 none takes inside within is_disk reach yet =
        let few = covers most size after joined (subst (Takes left after) (ap (λ (l : List ℕ). joined ++ l) none ∙ append-nil joined) takes) inside (omega (arith, within, inside)) yet in
        reach_more (from + (longest_stored_entry * most + 1)) start disk disk2 is_disk
        (reach_wider (from + (longest_stored_entry * (now.place - first.place) + 1)) (from + (longest_stored_entry * most + 1)) start disk (omega (arith, few)) reaches.1)
        (reach_wider (place + (longest_stored_entry * size + 1)) (from + (longest_stored_entry * most + 1)) disk disk2 (omega (arith, few, reaches.0)) reach)

    -- one line more
    pub reaches_more : (next : WindowState) (size place2 pairs : ℕ) (disk2 : DiskState) → IsDisk disk → next.place ≡ now.place + (size + 1) → place2 ≤ place + longest_stored_entry * pairs → pairs ≤ size → ReachesAtMost (place + (longest_stored_entry * size + 1)) disk disk2
        → Reaches first next from place2 start disk2
    reaches_more next size place2 pairs disk2 is_disk moved few short reach = (
      omega (arith, reaches.0, few, short, moved, gone.place_is),
      reach_more (from + (longest_stored_entry * (next.place - first.place) + 1)) start disk disk2 is_disk
          (reach_wider (from + (longest_stored_entry * (now.place - first.place) + 1)) (from + (longest_stored_entry * (next.place - first.place) + 1)) start disk (omega (arith, moved, gone.place_is)) reaches.1)
          (reach_wider (place + (longest_stored_entry * size + 1)) (from + (longest_stored_entry * (next.place - first.place) + 1)) disk disk2 (omega (arith, reaches.0, moved, gone.place_is)) reach),
    )

    pub reaches_on : (next : WindowState) (size : ℕ) → next.place ≡ now.place + size → Reaches first next from place start disk
    reaches_on next size moved = (
      omega (arith, reaches.0, moved, gone.place_is),
      reach_wider (from + (longest_stored_entry * (now.place - first.place) + 1)) (from + (longest_stored_entry * (next.place - first.place) + 1)) start disk (omega (arith, moved, gone.place_is)) reaches.1,
    )

-- Hosting that ends between lines, or while a line is heard or ended: what a crash leaves, and which texts were written.
use Rattle.std.proofs.Common.{◌≡◌, ◌⊎◌, inl, inr, ℕ, ◌≤◌, List, [], ◌++◌, Option, IfSome, length, take, drop, refl, sym, ap, subst, ◌∙◌, arith}
use Rattle.std.specs.Prelude.{⊤}
use Rattle.std.proofs.lemmas.List.{append-nil, take_all}
use Rattle.market_rules.specs.Market.{Market}
use Rattle.market_history.specs.Histories.{Start}
use Rattle.disk_edge.specs.Disks.{DiskState, IsDisk}
use Rattle.journal_disk.specs.Entries.{most_unkept}
use Rattle.journal_keeping.specs.Keeping.{HoldsLegal}
use Rattle.journal_keeping.specs.Outputs.{Output, Gains}
use Rattle.journal_keeping.proofs.Begun.{looks_alone, looked_legal}
use Rattle.journal_keeping.proofs.Gaining.{gains_more, gains_wider}
use Rattle.desk_opening.specs.declared.book.Book.{Book}
use Rattle.desk_opening.specs.declared.book.Book.TheVariants.{Kept, Open}
use Rattle.desk_opening.specs.Openings.{BeginsAlone}
use Rattle.desk_keeping.specs.declared.fault.HostFault.{HostFault}
use Rattle.desk_keeping.specs.declared.fault.HostFault.TheVariants.{Read, Write, Disk, Memory, NotDisk, Damaged, Rejected, NotFlow, BadCheckpoint, TooLong, Differs}
use Rattle.desk_keeping.specs.Hosting.{Entries, Texts, AreFirstHosted, HostsIn}
use Rattle.desk_keeping.specs.Private.{HostState, stored, unwritten, FileGoes, IsFileAt, AreWhole, IsWholeAt, IsAt, BreaksGroup, BreaksEnd, HearsLine}
use Rattle.desk_keeping.proofs.Files.{along_now}
use Rattle.desk_keeping.proofs.Leaving.{EndsFile, Carries, along_ends}
use Rattle.desk_keeping.proofs.Whole.{whole_lines}
use Rattle.desk_keeping.proofs.Ending.{AreFirst, unwritten_all, unwritten_heard, hosts_so, all_hosted, told_first, more_first, MayEnd, few_stored, stays_file, may_end, may_end_all}

module _ (limit : ℕ) (content : Option (List ℕ)) (begin was : Start) (start : DiskState) (old : Entries) (m : Market) (holds : HoldsLegal start was old m) (alone : IfSome start.content (BeginsAlone begin))
    (first : Output) (read : List (List ℕ)) (h : HostState) (now : DiskState) (out : Output) (at : IsAt begin start first read h now out) (short : length h.group ≤ most_unkept) (are : AreFirst limit content begin read) where
  -- the texts that are to be written
  abbrev left : Texts
  left = drop h.written h.session.talk.texts

  abbrev Ends : DiskState → Entries → ℕ → Type 0
  Ends end pairs safe = EndsFile begin was start end old m read pairs safe

  -- what is to be shown, whatever was cut short
  abbrev Hosts : Type 0 → DiskState → Output → Type 0
  Hosts Cut end after = HostsIn limit content Cut was start end old m first after

  few : length at.waiting ≤ most_unkept
  few = omega (arith, short, ap length at.group, few_stored at.waiting)

  all_whole : AreWhole begin read old (at.safe ++ at.waiting)
  all_whole = subst (AreWhole begin read old) at.parts (whole_lines begin read old at.pairs at.texts h.session.market h.session.talk.desks at.hosted)

  all_left : unwritten h ≡ left
  all_left = unwritten_all h at.all_told

  -- no more texts were written
  pub hosts_gone : (Cut : Type 0) (end : DiskState) → Ends end at.pairs (length at.safe) → Hosts Cut end out
  hosts_gone Cut end file =
      let (count, within, told, all) = told_first begin start read at.gone at.safe at.waiting at.pairs at.parts at.told in
      hosts_so limit content Cut begin was start end old m read at.pairs at.texts (length at.safe) count at.gone first out (all_hosted begin read at.pairs at.texts h.session.market h.session.talk.desks at.hosted) file are within (inr (all was old m holds)) told
      (gains_wider ⊥ Cut first out at.gone (λ never. absurd never) at.gained)

  -- so many were
  hosts_more : (Cut : Type 0) → Cut → (end : DiskState) (after : Output) (some : ℕ) → Ends end at.pairs (length at.pairs) → Gains Cut out after (take some left) → Hosts Cut end after
  hosts_more Cut cut end after some file gained =
      let (count, within, told) = more_first begin read at.pairs at.texts at.gone left h.session.market h.session.talk.desks at.hosted at.said some in
      hosts_so limit content Cut begin was start end old m read at.pairs at.texts (length at.pairs) count (at.gone ++ take some left) first after (all_hosted begin read at.pairs at.texts h.session.market h.session.talk.desks at.hosted) file are within (inl cut) told
      (gains_more Cut first out after at.gone (take some left) at.gained gained)

  -- all were
  hosts_all : (Cut : Type 0) (end : DiskState) (after : Output) → Ends end at.pairs (length at.pairs) → Gains Cut out after left → Hosts Cut end after
  hosts_all Cut end after file gained =
      let asked = all_hosted begin read at.pairs at.texts h.session.market h.session.talk.desks at.hosted in
      hosts_so limit content Cut begin was start end old m read at.pairs at.texts (length at.pairs) (length at.pairs) at.texts first after asked file are (omega arith) (inr (inl (omega arith)))
      (subst (λ (l : Entries). AreFirstHosted begin read l at.texts) (sym (take_all (length at.pairs) at.pairs (omega arith))) asked)
      (subst (λ (l : Texts). Gains Cut first after l) (sym at.said) (gains_more Cut first out after at.gone left at.gained gained))

  -- ---- between lines

  -- it ends here
  pub hosts_at : IsDisk now → (Cut : Type 0) → Hosts Cut now out
  hosts_at is_disk Cut =
      hosts_gone Cut now (subst (λ (l : Entries). Ends now l (length at.safe)) (sym at.parts) (stays_file begin was start old m holds alone read at.safe at.waiting h.session.market few all_whole h.book now at.file at.whole is_disk))

  -- entries that wait weren't kept, or texts not written
  breaks_host : (fault : HostFault) (host next : HostState) (mid later : DiskState) (after : Output) (Same : Type 0) → MayEnd begin was start old m read at.pairs (length at.safe) host next mid later Same → unwritten host ≡ left
      → (Cut : Type 0) → (fault ≡ Write → Cut) → BreaksGroup fault host next mid later out after Same → Hosts Cut later after
  breaks_host Disk host next mid later after Same may all Cut cut (same, some, leaves) = subst (Hosts Cut later) (sym same) (hosts_gone Cut later (may.fails some leaves))
  breaks_host Write host next mid later after Same may all Cut cut (keeps, (count, within, gained)) =
      let wide : Gains Cut out after (take count (unwritten host)) = gains_wider ⊤ Cut out after (take count (unwritten host)) (λ _. cut refl) gained in
      hosts_more Cut (cut refl) later after count (may.kept keeps) (subst (λ (l : Texts). Gains Cut out after (take count l)) all wide)
  breaks_host Read host next mid later after Same may all Cut cut never = absurd never
  breaks_host Memory host next mid later after Same may all Cut cut never = absurd never
  breaks_host NotDisk host next mid later after Same may all Cut cut never = absurd never
  breaks_host (Damaged place) host next mid later after Same may all Cut cut never = absurd never
  breaks_host (Rejected number) host next mid later after Same may all Cut cut never = absurd never
  breaks_host NotFlow host next mid later after Same may all Cut cut never = absurd never
  breaks_host BadCheckpoint host next mid later after Same may all Cut cut never = absurd never
  breaks_host TooLong host next mid later after Same may all Cut cut never = absurd never
  breaks_host (Differs number) host next mid later after Same may all Cut cut never = absurd never

  -- what waits wasn't settled
  pub breaks_settle : (fault : HostFault) (next : HostState) (later : DiskState) (after : Output) (Same : Type 0) → IsDisk later → Carries Same now later → (Cut : Type 0) → (fault ≡ Write → Cut)
      → BreaksGroup fault h next now later out after Same → Hosts Cut later after
  breaks_settle fault next later after Same is_later carry Cut cut breaks =
      breaks_host fault h next now later after Same (may_end begin was start old m holds alone read now later is_later Same carry h next at.pairs at.safe at.waiting h.session.market at.parts few at.group all_whole at.file at.whole) all_left Cut cut breaks

  -- ---- a line that was heard, but not ended

  module _ (then : DiskState) (is_disk : IsDisk now) (is_then : IsDisk then) (One : Type 0) (one : Carries One now then) where
    -- The file after it: it has all of the entries, or is as it was.
    heard_file : (b c : Book) (taken made : Entries) (new : Market) → FileGoes b c now then One h.session.market taken made new → IsFileAt begin start b now at.safe at.waiting h.session.market → IsWholeAt begin start read b now at.safe
        → ((at.waiting ≡ []) × Ends then at.safe (length at.safe)) ⊎ (IsFileAt begin start c then at.safe at.waiting h.session.market × IsWholeAt begin start read c then at.safe)
    heard_file (Kept place ahead) (Kept later next) taken made new (none, goes) (empty, along) whole =
        let on = goes begin at.safe (along_now begin place ahead start now at.safe h.session.market is_disk along) in
        inl (empty, along_ends begin was start old m holds place ahead now at.safe h.session.market along alone read then is_then (looks_alone begin old now then on.looks))
    heard_file (Kept place ahead) (Open later) taken made new (reached, goes, steps, fits) (empty, along) whole =
        let gets = goes begin at.safe (along_now begin place ahead start now at.safe h.session.market is_disk along) in
        let moments = gets.moments was old m (looked_legal was old m start now holds along.looks) in
        inl (empty, along_ends begin was start old m holds place ahead now at.safe h.session.market along alone read then is_then moments)
    heard_file (Open place) (Open later) taken made new (none, same, still, steps, fits) file whole =
        inr (
          subst (λ (n : ℕ). IsFileAt begin start (Open n) then at.safe at.waiting h.session.market) (sym same) (one still (λ s. IsFileAt begin start (Open place) s at.safe at.waiting h.session.market) file),
          one still (λ s. IsWholeAt begin start read (Open place) s at.safe) whole,
        )
    heard_file (Open place) (Kept later next) taken made new never file whole = absurd never

    module _ (line : List ℕ) (mid next : HostState) (heard : HearsLine line h mid now then One) (later : DiskState) (after : Output) (Same SameOut : Type 0) (is_later : IsDisk later) (carry : Carries Same then later)
        (carry_out : SameOut → (P : Output → Type 0) → P out → P after) where
      heard_may : MayEnd begin was start old m read at.pairs (length at.safe) mid next then later Same
      heard_may = by (heard_file h.book mid.book heard.taken heard.made mid.session.market heard.goes at.file at.whole)
        where
          group : mid.group ≡ stored at.waiting
          group = heard.aside.group ∙ at.group

          by : ((at.waiting ≡ []) × Ends then at.safe (length at.safe)) ⊎ (IsFileAt begin start mid.book then at.safe at.waiting h.session.market × IsWholeAt begin start read mid.book then at.safe) → MayEnd begin was start old m read at.pairs (length at.safe) mid next then later Same
          by (inl (empty, file)) =
              let same : at.pairs ≡ at.safe = at.parts ∙ ap (λ (l : Entries). at.safe ++ l) empty ∙ append-nil at.safe in
              may_end_all begin was start old m holds alone read then later is_later Same carry mid next at.pairs (length at.safe) (omega (arith, ap length same)) (group ∙ ap stored empty)
              (subst (λ (l : Entries). Ends then l (length l)) (sym same) file)
          by (inr (file, whole)) = may_end begin was start old m holds alone read then later is_later Same carry mid next at.pairs at.safe at.waiting h.session.market at.parts few group all_whole file whole

      -- only the texts of the lines before are to be written
      heard_left : unwritten mid ≡ left
      heard_left = unwritten_heard line h mid now then One heard at.order at.all_told

      -- it wasn't ended
      pub breaks_end : (fault : HostFault) (Cut : Type 0) → (fault ≡ Write → Cut) → BreaksEnd fault mid next then later out after Same SameOut → Hosts Cut later after
      breaks_end Memory Cut cut (inl (still, quiet)) = carry_out quiet (Hosts Cut later) (hosts_gone Cut later (heard_may.stays still))
      breaks_end Memory Cut cut (inr (keeps, gained)) =
          let wide : Gains Cut out after (unwritten mid) = gains_wider ⊥ Cut out after (unwritten mid) (λ never. absurd never) gained in
          hosts_all Cut later after (heard_may.kept keeps) (subst (λ (l : Texts). Gains Cut out after l) heard_left wide)
      breaks_end Disk Cut cut breaks = breaks_host Disk mid next then later after Same heard_may heard_left Cut cut breaks
      breaks_end Write Cut cut breaks = breaks_host Write mid next then later after Same heard_may heard_left Cut cut breaks
      breaks_end Read Cut cut never = absurd never
      breaks_end NotDisk Cut cut never = absurd never
      breaks_end (Damaged place) Cut cut never = absurd never
      breaks_end (Rejected number) Cut cut never = absurd never
      breaks_end NotFlow Cut cut never = absurd never
      breaks_end BadCheckpoint Cut cut never = absurd never
      breaks_end TooLong Cut cut never = absurd never
      breaks_end (Differs number) Cut cut never = absurd never

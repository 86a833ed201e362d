-- Hosting that ends while a line is heard: what a crash leaves, and which texts were written.
use Rattle.std.proofs.Common.{◌≡◌, inl, inr, ℕ, ◌+◌, ◌≤◌, List, [], ◌∷◌, ◌++◌, Option, IfSome, length, length-append, take, drop, refl, sym, ap, subst, ◌∙◌, arith, append_assoc}
use Rattle.std.specs.Prelude.{⊤}
use Rattle.std.proofs.lemmas.List.{append-nil, take_all, drop-append-le}
use Rattle.std.proofs.Math.Seq.{take-append-add}
use Rattle.flow_orders.specs.Outcomes.{IsAdmissibleOutcome}
use Rattle.wire_records.specs.Commands.{Command}
use Rattle.market_rules.specs.Market.{Market}
use Rattle.market_history.specs.Histories.{Start, market_of}
use Rattle.disk_edge.specs.Disks.{DiskState, IsDisk}
use Rattle.journal_disk.specs.Entries.{most_unkept}
use Rattle.journal_disk.proofs.GoingOn.{looks_none}
use Rattle.journal_keeping.specs.Keeping.{HoldsLegal}
use Rattle.journal_keeping.specs.Outputs.{Output, Gains}
use Rattle.journal_keeping.proofs.Begun.{looks_alone, looked_legal}
use Rattle.journal_keeping.proofs.Gaining.{gains_more, gains_wider}
use Rattle.desk_session.specs.Lines.{IsLineBegun}
use Rattle.desk_session.proofs.Going.{first_into, first_texts_into}
use Rattle.desk_opening.specs.declared.book.Book.{Book}
use Rattle.desk_opening.specs.declared.book.Book.TheVariants.{Kept, Open}
use Rattle.desk_opening.specs.Books.{IsReadAlong}
use Rattle.desk_opening.specs.Openings.{BeginsAlone}
use Rattle.desk_keeping.specs.declared.fault.HostFault.{HostFault}
use Rattle.desk_keeping.specs.declared.fault.HostFault.TheVariants.{Read, Write, Disk, Memory, NotDisk, Damaged, Rejected, NotFlow, BadCheckpoint, TooLong, Differs}
use Rattle.desk_keeping.specs.Hosting.{Entries, Texts, desks_of, AreHostedInto, AreFirstHosted, HostsIn}
use Rattle.desk_keeping.specs.Private.{HostState, LeavesFile, WhyNot, IsFileAt, AreWhole, IsWholeAt, IsAt, StopsWithin, BreaksLine, StopsHere}
use Rattle.desk_keeping.proofs.Files.{along_now, along_later}
use Rattle.desk_keeping.proofs.Leaving.{EndsFile, Carries, old_parts, along_ends}
use Rattle.desk_keeping.proofs.Whole.{whole_lines}
use Rattle.desk_keeping.proofs.Ending.{AreFirst, hosts_so, take_within, few_stored, stays_file}
use Rattle.desk_keeping.proofs.Broken.{hosts_gone}

-- lines that were heard, and one more whose first commands got entries: it stopped at an entry of the file
module _ (begin : Start) (start : DiskState) (first : Output) (read : List (List ℕ)) (h : HostState) (now then : DiskState) (out : Output) (at : IsAt begin start first read h now out) (line : List ℕ) (mid : HostState)
    (Why : ℕ → Market → List Command → ℕ → List ℕ → Type 0) (s : StopsWithin line h mid now then Why) where
  -- the lines are served, and of one more the first commands
  pub served_into : AreHostedInto begin read line s.next (at.pairs ++ s.taken) (at.texts ++ s.texts) mid.session.market mid.session.talk.desks
  served_into =
      let size : h.session.entries ≡ 0 + length at.pairs = omega (arith, at.entries) in
      record {
        first = at.pairs;
        own = at.texts;
        mid = h.session.market;
        between = h.session.talk.desks;
        whole = at.hosted;
        sender = s.sender;
        more = s.taken;
        others = s.texts;
        begun = subst (λ (n : ℕ). IsLineBegun IsAdmissibleOutcome h.session.market h.session.talk.desks n line s.sender s.next s.taken s.texts mid.session.market mid.session.talk.desks) size s.begun;
        all = refl;
        said = refl;
      }

  -- the texts of complete lines, and of that line, that weren't written before
  pub left_within : at.texts ++ s.texts ≡ at.gone ++ drop mid.written mid.session.talk.texts
  left_within =
      let left : Texts = drop h.written h.session.talk.texts in
      let same : drop mid.written mid.session.talk.texts ≡ left ++ s.texts =
      ap (λ (n : ℕ). drop n mid.session.talk.texts) s.aside.written ∙ ap (drop h.written) s.said ∙ drop-append-le h.written h.session.talk.texts s.texts (omega (arith, at.order, at.all_told))
      in
      ap (λ (l : Texts). l ++ s.texts) at.said ∙ append_assoc at.gone left s.texts ∙ ap (λ (l : Texts). at.gone ++ l) (sym same)

  -- the file is read along, and no entry waits
  pub along_first : (at.waiting ≡ []) × IsReadAlong begin s.place s.ahead start now at.safe h.session.market
  along_first = subst (λ (b : Book). IsFileAt begin start b now at.safe at.waiting h.session.market) s.book at.file

  pub same_pairs : at.pairs ≡ at.safe
  same_pairs = at.parts ∙ ap (λ (l : Entries). at.safe ++ l) along_first.0 ∙ append-nil at.safe

  pub along_goes : IsDisk now → IsReadAlong begin s.later s.piece now then (at.safe ++ s.taken) mid.session.market
  along_goes is_disk = s.goes begin at.safe (along_now begin s.place s.ahead start now at.safe h.session.market is_disk along_first.1)

  -- the entries that were taken are in the file
  pub along_then : IsDisk now → IsReadAlong begin s.later s.piece start then (at.pairs ++ s.taken) mid.session.market
  along_then is_disk =
      subst (λ (l : Entries). IsReadAlong begin s.later s.piece start then (l ++ s.taken) mid.session.market) (sym same_pairs)
      (along_later begin s.place s.later s.ahead s.piece start now then at.safe (at.safe ++ s.taken) h.session.market mid.session.market along_first.1 (along_goes is_disk))

module _ (limit : ℕ) (content : Option (List ℕ)) (begin was : Start) (start : DiskState) (old : Entries) (m : Market) (holds : HoldsLegal start was old m) (alone : IfSome start.content (BeginsAlone begin))
    (first : Output) (read : List (List ℕ)) (h : HostState) (now : DiskState) (out : Output) (at : IsAt begin start first read h now out) (short : length h.group ≤ most_unkept) (are : AreFirst limit content begin read)
    (then : DiskState) (is_disk : IsDisk now) (is_then : IsDisk then) (One : Type 0) (one : Carries One now then) (line : List ℕ) (are_line : AreFirst limit content begin (read ++ line ∷ []))
    (mid : HostState) (after : Output) (SameOut : Type 0) (carry_out : SameOut → (P : Output → Type 0) → P out → P after) where
  abbrev Ends : DiskState → Entries → ℕ → Type 0
  Ends end pairs safe = EndsFile begin was start end old m read pairs safe

  all_whole : AreWhole begin read old (at.safe ++ at.waiting)
  all_whole = subst (AreWhole begin read old) at.parts (whole_lines begin read old at.pairs at.texts h.session.market h.session.talk.desks at.hosted)

  abbrev Hosts : Type 0 → DiskState → Output → Type 0
  Hosts Cut end later = HostsIn limit content Cut was start end old m first later

  -- nothing more was written, and the file perhaps being cut
  left_file : (b : Book) → LeavesFile b now then One h.session.market → IsFileAt begin start b now at.safe at.waiting h.session.market → IsWholeAt begin start read b now at.safe → Ends then (at.safe ++ at.waiting) (length at.safe)
  left_file (Kept place ahead) leaves (none, along) whole =
      let moments = (leaves begin at.safe (along_now begin place ahead start now at.safe h.session.market is_disk along)).0 was old m (looked_legal was old m start now holds along.looks) in
      subst (λ (l : Entries). Ends then l (length at.safe)) (sym (ap (λ (l : Entries). at.safe ++ l) none ∙ append-nil at.safe))
      (along_ends begin was start old m holds place ahead now at.safe h.session.market along alone read then is_then moments)
  left_file (Open place) still file whole =
      stays_file begin was start old m holds alone read at.safe at.waiting h.session.market (omega (arith, short, ap length at.group, few_stored at.waiting)) all_whole (Open place) then (one still (λ s. IsFileAt begin start (Open place) s at.safe at.waiting h.session.market) file)
      (one still (λ s. IsWholeAt begin start read (Open place) s at.safe) whole) is_then

  hosts_left : (Cut : Type 0) → LeavesFile h.book now then One h.session.market → SameOut → Hosts Cut then after
  hosts_left Cut leaves quiet =
      carry_out quiet (Hosts Cut then)
      (hosts_gone limit content begin was start old m holds alone first read h now out at short are Cut then (subst (λ (l : Entries). Ends then l (length at.safe)) (sym at.parts) (left_file h.book leaves at.file at.whole)))

  -- it stopped at an entry of the file
  module _ (Why : ℕ → Market → List Command → ℕ → List ℕ → Type 0) (s : StopsWithin line h mid now then Why) where
    along_here : (at.waiting ≡ []) × IsReadAlong begin s.place s.ahead start now at.safe h.session.market
    along_here = along_first begin start first read h now then out at line mid Why s

    same_here : at.pairs ≡ at.safe
    same_here = same_pairs begin start first read h now then out at line mid Why s

    goes_here : IsReadAlong begin s.later s.piece now then (at.safe ++ s.taken) mid.session.market
    goes_here = along_goes begin start first read h now then out at line mid Why s is_disk

    then_here : IsReadAlong begin s.later s.piece start then (at.pairs ++ s.taken) mid.session.market
    then_here = along_then begin start first read h now then out at line mid Why s is_disk

    first_file : Ends then at.pairs (length at.safe)
    first_file =
        subst (λ (l : Entries). Ends then l (length at.safe)) (sym same_here)
        (along_ends begin was start old m holds s.place s.ahead now at.safe h.session.market along_here.1 alone read then is_then (looks_alone begin old now then goes_here.looks))

    all_file : EndsFile begin was start then old m (read ++ line ∷ []) (at.pairs ++ s.taken) (length (at.pairs ++ s.taken))
    all_file = along_ends begin was start old m holds s.later s.piece then (at.pairs ++ s.taken) mid.session.market then_here alone (read ++ line ∷ []) then is_then (looks_alone begin old then then (looks_none then is_then))

    -- all of them are old
    all_old : length (at.pairs ++ s.taken) ≤ length old
    all_old =
        let (others, parts) = old_parts begin was start old m holds s.later s.piece then (at.pairs ++ s.taken) mid.session.market then_here alone in
        omega (arith, ap length parts, length-append (at.pairs ++ s.taken) others)

    into : AreHostedInto begin read line s.next (at.pairs ++ s.taken) (at.texts ++ s.texts) mid.session.market mid.session.talk.desks
    into = served_into begin start first read h now then out at line mid Why s

    -- so many of the texts were written
    hosts_into : (Cut : Type 0) (some : ℕ) → Gains Cut out after (take some (drop mid.written mid.session.talk.texts)) → Hosts Cut then after
    hosts_into Cut some gained =
        let others : Texts = drop mid.written mid.session.talk.texts in
        let said = left_within begin start first read h now then out at line mid Why s in
        let (k, within, same) = take_within some others in
        let (count, small, told) =
        first_texts_into IsAdmissibleOutcome (market_of begin) mid.session.market (desks_of begin) mid.session.talk.desks 0 read line [] s.next (at.pairs ++ s.taken) (at.texts ++ s.texts) into (length at.gone + k)
        (omega (arith, within, ap length said, length-append at.gone others))
        in
        let texts_are : take (length at.gone + k) (at.texts ++ s.texts) ≡ at.gone ++ take some others = ap (take (length at.gone + k)) said ∙ take-append-add at.gone others k ∙ ap (λ (l : Texts). at.gone ++ l) (sym same) in
        hosts_so limit content Cut begin was start then old m (read ++ line ∷ []) (at.pairs ++ s.taken) (at.texts ++ s.texts) (length (at.pairs ++ s.taken)) count (at.gone ++ take some others) first after
        (first_into IsAdmissibleOutcome (market_of begin) mid.session.market (desks_of begin) mid.session.talk.desks 0 read line [] s.next (at.pairs ++ s.taken) (at.texts ++ s.texts) into)
        all_file are_line small (inr (inr all_old)) (subst (λ (l : Texts). AreFirstHosted begin (read ++ line ∷ []) (take count (at.pairs ++ s.taken)) l) texts_are told)
        (gains_more Cut first out after at.gone (take some others) at.gained gained)

    hosts_within : (fault result : HostFault) (Cut : Type 0) → (result ≡ Write → Cut) → StopsHere fault result mid out after SameOut → Hosts Cut then after
    hosts_within fault result Cut cut (inl (not, same, quiet)) = carry_out quiet (Hosts Cut then) (hosts_gone limit content begin was start old m holds alone first read h now out at short are Cut then first_file)
    hosts_within fault result Cut cut (inr (is, inl (same, gained))) =
        let others : Texts = drop mid.written mid.session.talk.texts in
        let wide : Gains Cut out after others = gains_wider ⊥ Cut out after others (λ never. absurd never) gained in
        hosts_into Cut (length others) (subst (λ (l : Texts). Gains Cut out after l) (sym (take_all (length others) others (omega arith))) wide)
    hosts_within fault result Cut cut (inr (is, inr (write, count, gained))) =
        hosts_into Cut count (gains_wider ⊤ Cut out after (take count (drop mid.written mid.session.talk.texts)) (λ _. cut write) gained)

  -- a line wasn't heard to its end
  pub breaks_line : (fault result : HostFault) (Cut : Type 0) → (result ≡ Write → Cut) → BreaksLine fault line h mid now then One → StopsHere fault result mid out after SameOut → Hosts Cut then after
  breaks_line Memory result Cut cut leaves (inl (not, same, quiet)) = hosts_left Cut leaves quiet
  breaks_line Memory result Cut cut leaves (inr (never, rest)) = absurd never
  breaks_line Disk result Cut cut leaves (inl (not, same, quiet)) = hosts_left Cut leaves quiet
  breaks_line Disk result Cut cut leaves (inr (never, rest)) = absurd never
  breaks_line Read result Cut cut stops here = hosts_within (WhyNot Read) stops Read result Cut cut here
  breaks_line Write result Cut cut stops here = hosts_within (WhyNot Write) stops Write result Cut cut here
  breaks_line NotDisk result Cut cut stops here = hosts_within (WhyNot NotDisk) stops NotDisk result Cut cut here
  breaks_line (Damaged place) result Cut cut stops here = hosts_within (WhyNot (Damaged place)) stops (Damaged place) result Cut cut here
  breaks_line (Rejected number) result Cut cut stops here = hosts_within (WhyNot (Rejected number)) stops (Rejected number) result Cut cut here
  breaks_line NotFlow result Cut cut stops here = hosts_within (WhyNot NotFlow) stops NotFlow result Cut cut here
  breaks_line BadCheckpoint result Cut cut stops here = hosts_within (WhyNot BadCheckpoint) stops BadCheckpoint result Cut cut here
  breaks_line TooLong result Cut cut stops here = hosts_within (WhyNot TooLong) stops TooLong result Cut cut here
  breaks_line (Differs number) result Cut cut stops here = hosts_within (WhyNot (Differs number)) stops (Differs number) result Cut cut here

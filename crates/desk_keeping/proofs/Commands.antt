-- The commands of a line, one after the other.
use Rattle.std.proofs.Common.{◌≡◌, inl, inr, ◌⊎◌, ℕ, ◌+◌, ◌^◌, ◌<◌, ◌≤◌, List, [], ◌∷◌, ◌++◌, Option, IfSome, length, length-append, take, drop, take-append-drop, get_or, Some, None, map, refl, sym, ap, subst, ◌∙◌, arith, append_assoc}
use Rattle.std.proofs.lemmas.List.{append-nil, map-append, drop_more}
use Rattle.std.proofs.Math.Seq.{take-add}
use Rattle.std.specs.List.{flat_map}
use Rattle.std.proofs.lemmas.Grind.{flat_map-append}
use Rattle.wire_records.specs.Commands.{Command}
use Rattle.flow_orders.specs.Outcomes.{IsAdmissibleOutcome}
use Rattle.journal_records.specs.Formats.{records_of}
use Rattle.market_rules.specs.Market.{Market}
use Rattle.market_history.specs.Histories.{Start}
use Rattle.answer_text.specs.declared.header.Recipient.{Recipient}
use Rattle.disk_edge.specs.Disks.{DiskState, IsDisk, AtEachMoment}
use Rattle.journal_disk.specs.Pairs.{RecordPair}
use Rattle.journal_disk.specs.Entries.{entry, Holds}
use Rattle.journal_disk.specs.Ahead.{AheadState, IsPiece}
use Rattle.journal_disk.specs.Looking.{OnlyLooks}
use Rattle.journal_disk.proofs.GoingOn.{looks_hold, looks_more}
use Rattle.journal_keeping.specs.Starts.{head_of}
use Rattle.journal_keeping.specs.Beginning.{WhileOpening}
use Rattle.journal_keeping.proofs.Begun.{looks_first, looked_legal}
use Rattle.desk_session.specs.Talks.{Talk}
use Rattle.desk_session.specs.Lines.{AreServed}
use Rattle.desk_session.proofs.Going.{none_served, served_more}
use Rattle.desk_opening.specs.Books.{IsReadAlong}
use Rattle.desk_opening.specs.declared.book.Book.{Book}
use Rattle.desk_opening.specs.declared.book.Book.TheVariants.{Kept, Open}
use Rattle.desk_opening.specs.Openings.{place_of}
use Rattle.desk_keeping.specs.Hosting.{Entries, Texts}
use Rattle.desk_keeping.specs.declared.fault.HostFault.{HostFault}
use Rattle.desk_keeping.specs.declared.fault.HostFault.TheVariants as host
use Rattle.desk_keeping.specs.Private.{HostState, stored, ReadsOn, CanRead, FileGoes, MakesAtEnd, LeavesFile, StaysAside, AnswersOne, StopsAt, WhyNot, BreaksOne, AnswersAll, StopsAmong, BreaksAll}
use Rattle.desk_keeping.proofs.KeepingNone.{none_continued, alone_later}
use Rattle.desk_keeping.proofs.Files.{moved, along_now, goes_none, goes_more, in_order}

-- the first elements, and one more
pub parted_at : {A : Type 0} (l : List A) (k : ℕ) (x : A) → k < length l → x ≡ get_or l k x → (take (k + 1) l ≡ take k l ++ x ∷ []) × (l ≡ take k l ++ x ∷ drop (k + 1) l)
parted_at l k x inside is =
    let following : drop k l ≡ x ∷ drop (k + 1) l = drop_more l k x inside ∙ ap (λ z. z ∷ drop (k + 1) l) (sym is) in
    (take-add k 1 l ∙ ap (λ z. take k l ++ take 1 z) following, sym (take-append-drop k l) ∙ ap (λ z. take k l ++ z) following)

-- what is stored of more entries
pub stored_more : (p q : Entries) → stored (p ++ q) ≡ stored p ++ stored q
stored_more p q = ap (λ (l : List RecordPair). flat_map entry l) (map-append records_of p q) ∙ flat_map-append entry (map records_of p) (map records_of q)

aside_more : (h m n : HostState) → StaysAside h m → StaysAside m n → StaysAside h n
aside_more h m n one two = record { group = two.group ∙ one.group; told = two.told ∙ one.told; written = two.written ∙ one.written }

over : (o : Option (List ℕ)) (P Q : List ℕ → Type 0) → ((bytes : List ℕ) → P bytes → Q bytes) → IfSome o P → IfSome o Q
over None P Q f p = tt
over (Some bytes) P Q f p = f bytes p

-- a file that was read along, and only looked at since then
along_looks : (begin : Start) (place : ℕ) (ahead : AheadState) (start mid now : DiskState) (pairs : Entries) (market : Market) → IsReadAlong begin place ahead start mid pairs market → OnlyLooks mid now → IsReadAlong begin place ahead start now pairs market
along_looks begin place ahead start mid now pairs market along looks = record {
  journal = along.journal;
  looks = looks_more start mid now along.looks looks;
  known = along.known;
  piece = moved mid.content now.content (IsPiece ahead) looks.content along.piece;
  holds = moved mid.content now.content (λ _. (left : List ℕ) × Holds (head_of begin) (map records_of pairs) place left now) looks.content
      (over mid.content (λ _. (left : List ℕ) × Holds (head_of begin) (map records_of pairs) place left mid) (λ _. (left : List ℕ) × Holds (head_of begin) (map records_of pairs) place left now)
      (λ bytes h. (h.0, looks_hold (head_of begin) (map records_of pairs) place h.0 mid now h.1 looks)) along.holds);
}

-- ---- a book that is read to its end

-- if nothing was done, it wasn't
pub end_none : (b : Book) → MakesAtEnd b b []
end_none (Kept place ahead) = tt
end_none (Open place) = tt

-- by two calls, by one of them
end_more : (disk mid now : DiskState) (One Two : Type 0) (m n k : Market) (t v : Entries) (b c d : Book) (u w : Entries) → FileGoes b c disk mid One m t u n → FileGoes c d mid now Two n v w k → MakesAtEnd b c u → MakesAtEnd c d w → MakesAtEnd b d (u ++ w)
end_more disk mid now One Two m n k t v (Open p) c d u w one two first more = tt
end_more disk mid now One Two m n k t v (Kept p a) c (Kept r e) u w one two first more = tt
end_more disk mid now One Two m n k t v (Kept p a) (Kept q b) (Open r) u w one two first more = omega (arith, more, length-append u w)
end_more disk mid now One Two m n k t v (Kept p a) (Open q) (Open r) u w one two first more = omega (arith, first, length-append u w)

-- ---- those that were answered

pub all_none : (sender : Recipient) (line : ℕ) (h : HostState) (disk : DiskState) (Same : Type 0) → Same → AnswersAll sender line [] h h disk disk Same
all_none sender line h disk Same same = record {
  taken = [];
  made = [];
  texts = [];
  served = none_served IsAdmissibleOutcome sender line h.session.market h.session.talk.desks h.session.entries;
  said = sym (append-nil h.session.talk.texts);
  entries = omega arith;
  goes = goes_none h.book disk Same h.session.market same;
  more = end_none h.book;
  fresh = sym (append-nil h.fresh);
  aside = record { group = refl; told = refl; written = refl };
}

module _ (sender : Recipient) (line : ℕ) (commands : List Command) (h m : HostState) (disk mid : DiskState) (One : Type 0) (all : AnswersAll sender line commands h m disk mid One) where
  pub all_more : (command : Command) (n : HostState) (now : DiskState) (Two Both : Type 0) → IsDisk mid → (One → Two → Both) → (Two → (P : DiskState → Type 0) → P mid → P now) → AnswersOne sender line command m n mid now Two
      → AnswersAll sender line (commands ++ command ∷ []) h n disk now Both
  all_more command n now Two Both is_disk both carry one =
      let more = served_more IsAdmissibleOutcome sender line h.session.market m.session.market h.session.talk.desks m.session.talk.desks h.session.entries commands (all.taken ++ all.made) all.texts m.session n.session command one.pair
      all.served refl refl all.entries one.answers in
      let order = in_order disk mid now is_disk h.session.market m.session.market One Two Both both carry n.session.market all.taken all.made one.taken one.made h.book m.book n.book all.goes one.goes in
      let entries : (all.taken ++ all.made) ++ one.pair ∷ [] ≡ (all.taken ++ one.taken) ++ (all.made ++ one.made) = ap (λ (l : Entries). (all.taken ++ all.made) ++ l) (sym one.one) ∙ order in
      record {
        taken = all.taken ++ one.taken;
        made = all.made ++ one.made;
        texts = all.texts ++ more.0 ∷ [];
        served = subst (λ (l : Entries). AreServed IsAdmissibleOutcome h.session.market h.session.talk.desks h.session.entries sender line (commands ++ command ∷ []) l (all.texts ++ more.0 ∷ []) n.session.market n.session.talk.desks) entries more.1;
        said = more.2 ∙ ap (λ (l : Texts). l ++ more.0 ∷ []) all.said ∙ append_assoc h.session.talk.texts all.texts (more.0 ∷ []);
        entries = omega (arith, one.answers.counted, all.entries, ap length entries, length-append (all.taken ++ all.made) (one.pair ∷ []));
        goes = goes_more disk mid now is_disk h.session.market m.session.market One Two Both both carry n.session.market all.taken all.made one.taken one.made h.book m.book n.book all.goes one.goes;
        more = end_more disk mid now One Two h.session.market m.session.market n.session.market all.taken one.taken h.book m.book n.book all.made one.made all.goes one.goes all.more one.more;
        fresh = one.fresh ∙ ap (λ (l : List ℕ). l ++ stored one.made) all.fresh ∙ append_assoc h.fresh (stored all.made) (stored one.made) ∙ ap (λ (l : List ℕ). h.fresh ++ l) (sym (stored_more all.made one.made));
        aside = aside_more h m n all.aside one.aside;
      }

  -- ---- the one that wasn't

  -- memory ran out, or a call of the disk failed
  leaves_more : (now : DiskState) (Two Both : Type 0) → IsDisk mid → (One → Two → Both) → (Two → (P : DiskState → Type 0) → P mid → P now) → LeavesFile m.book mid now Two m.session.market → LeavesFile h.book disk now Both h.session.market
  leaves_more now Two Both is_disk both carry leaves = by_books h.book m.book all.goes leaves
    where
      by_books : (b c : Book) → FileGoes b c disk mid One h.session.market all.taken all.made m.session.market → LeavesFile c mid now Two m.session.market → LeavesFile b disk now Both h.session.market
      by_books (Kept p a) (Kept q d) goes left = λ begin pairs along.
          let to_mid = goes.1 begin pairs along in
          let from_mid = left begin (pairs ++ all.taken) (along_now begin q d disk mid (pairs ++ all.taken) m.session.market is_disk to_mid) in (
            (λ was legal k holds. looks_first begin legal disk mid now to_mid.looks (from_mid.0 was legal k (looked_legal was legal k disk mid holds to_mid.looks))),
            alone_later disk mid now to_mid.looks from_mid.1,
          )
      by_books (Kept p a) (Open q) goes left = λ begin pairs along. (
        (λ was legal k holds. carry left (λ s. AtEachMoment disk s (WhileOpening begin disk legal)) ((goes.1 begin pairs along).moments was legal k holds)),
        none_continued disk.content begin (pairs ++ all.taken) goes.0 (OnlyLooks disk now) (goes.1 begin pairs along).continues,
      )
      by_books (Open p) (Open q) goes left = both goes.2 left
      by_books (Open p) (Kept q d) goes left = absurd goes

  module _ (n : HostState) (now : DiskState) (command : Command) (next : List Command) (Why : (number : ℕ) → Market → List Command → (place : ℕ) → List ℕ → Type 0)
      (wider : (number : ℕ) (k : Market) (place : ℕ) (bytes : List ℕ) → Why number k (command ∷ []) place bytes → Why number k (command ∷ next) place bytes)
      (stops : StopsAt m n mid now (Why (m.session.entries + 1) m.session.market (command ∷ []))) where
    -- it stopped at an entry of the file
    stops_more : CanRead h.book disk h.session.market → StopsAmong sender line (commands ++ command ∷ next) h n disk now Why
    stops_more can = by_book h.book refl all.goes can
      where
        reads_still : (p q : ℕ) (a d : AheadState) → ReadsOn p q a d disk mid h.session.market all.taken m.session.market → ReadsOn p q a d disk now h.session.market all.taken n.session.market
        reads_still p q a d reads begin pairs along =
            subst (λ (k : Market). IsReadAlong begin q d disk now (pairs ++ all.taken) k) (sym stops.market)
            (along_looks begin q d disk mid now (pairs ++ all.taken) m.session.market (reads begin pairs along) stops.looks)

        with_kept : (p : ℕ) (a : AheadState) → h.book ≡ Kept p a → FileGoes (Kept p a) (Kept stops.place stops.ahead) disk mid One h.session.market all.taken all.made m.session.market → CanRead (Kept p a) disk h.session.market
            → StopsAmong sender line (commands ++ command ∷ next) h n disk now Why
        with_kept p a is (none, reads) (begin, pairs, along) =
            let same : mid.content ≡ disk.content = (reads begin pairs along).looks.content in
            let entries : all.taken ++ all.made ≡ all.taken = ap (λ (l : Entries). all.taken ++ l) none ∙ append-nil all.taken in
            let number : m.session.entries + 1 ≡ h.session.entries + (length all.taken + 1) = omega (arith, all.entries, ap length entries) in
            let served = subst (λ (l : Entries). AreServed IsAdmissibleOutcome h.session.market h.session.talk.desks h.session.entries sender line commands l all.texts m.session.market m.session.talk.desks) entries all.served in
            let why = over mid.content _ _ (λ bytes w. wider (m.session.entries + 1) m.session.market stops.place bytes w) stops.why in
            record {
              first = commands;
              next = command ∷ next;
              asks = λ none. absurd (omega (arith, ap length none));
              parts = refl;
              taken = all.taken;
              texts = all.texts;
              served = rw (stops.market, stops.talk) served;
              said = ap (λ (t : Talk). t.texts) stops.talk ∙ all.said;
              place = p;
              ahead = a;
              book = is;
              later = stops.place;
              piece = stops.ahead;
              goes = reads_still p stops.place a stops.ahead reads;
              why = rw (stops.market, ← number) (moved mid.content disk.content _ (sym same) why);
              aside = aside_more h m n all.aside stops.aside;
            }

        by_book : (b : Book) → h.book ≡ b → FileGoes b m.book disk mid One h.session.market all.taken all.made m.session.market → CanRead b disk h.session.market → StopsAmong sender line (commands ++ command ∷ next) h n disk now Why
        by_book (Kept p a) is goes can = with_kept p a is (subst (λ (c : Book). FileGoes (Kept p a) c disk mid One h.session.market all.taken all.made m.session.market) stops.book goes) can
        by_book (Open p) is goes can = absurd (subst (λ (c : Book). FileGoes (Open p) c disk mid One h.session.market all.taken all.made m.session.market) stops.book goes)

  pub breaks_more : (n : HostState) (now : DiskState) (Two Both : Type 0) (command : Command) (next : List Command) (fault : HostFault) → IsDisk mid → (One → Two → Both) → (Two → (P : DiskState → Type 0) → P mid → P now) → CanRead h.book disk h.session.market
      → BreaksOne fault command m n mid now Two → BreaksAll fault sender line (commands ++ command ∷ next) h n disk now Both
  breaks_more n now Two Both command next host.Memory is_disk both carry can breaks = leaves_more now Two Both is_disk both carry breaks
  breaks_more n now Two Both command next host.Disk is_disk both carry can breaks = leaves_more now Two Both is_disk both carry breaks
  breaks_more n now Two Both command next host.Read is_disk both carry can breaks = stops_more n now command next (WhyNot host.Read) (λ number k place bytes why. why) breaks can
  breaks_more n now Two Both command next host.Write is_disk both carry can breaks = stops_more n now command next (WhyNot host.Write) (λ number k place bytes why. why) breaks can
  breaks_more n now Two Both command next host.NotDisk is_disk both carry can breaks = stops_more n now command next (WhyNot host.NotDisk) (λ number k place bytes why. why) breaks can
  breaks_more n now Two Both command next (host.Damaged at) is_disk both carry can breaks = stops_more n now command next (WhyNot (host.Damaged at)) (λ number k place bytes why. why) breaks can
  breaks_more n now Two Both command next (host.Rejected at) is_disk both carry can breaks = stops_more n now command next (WhyNot (host.Rejected at)) (λ number k place bytes why. why) breaks can
  breaks_more n now Two Both command next host.NotFlow is_disk both carry can breaks = stops_more n now command next (WhyNot host.NotFlow) (λ number k place bytes why. why) breaks can
  breaks_more n now Two Both command next host.BadCheckpoint is_disk both carry can breaks = stops_more n now command next (WhyNot host.BadCheckpoint) (λ number k place bytes why. why) breaks can
  breaks_more n now Two Both command next host.TooLong is_disk both carry can breaks = stops_more n now command next (WhyNot host.TooLong) (λ number k place bytes why. why) breaks can
  breaks_more n now Two Both command next (host.Differs at) is_disk both carry can breaks = stops_more n now command next (WhyNot (host.Differs at)) (λ number k place bytes why. why) breaks can

-- ---- what goes along

pub near_more : (b c d : Book) → (c ≡ b) ⊎ (place_of c ≤ 2 ^ 60) → (d ≡ c) ⊎ (place_of d ≤ 2 ^ 60) → (d ≡ b) ⊎ (place_of d ≤ 2 ^ 60)
near_more b c d (inl one) (inl two) = inl (two ∙ one)
near_more b c d (inr one) (inl two) = inr (subst (λ (x : Book). place_of x ≤ 2 ^ 60) (sym two) one)
near_more b c d one (inr two) = inr two

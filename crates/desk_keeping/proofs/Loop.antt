-- The loop over all lines: how it goes on, and what it results in where it ends.
use Rattle.std.proofs.Common.{◌≡◌, ◌≢◌, ◌⊎◌, inl, inr, ℕ, ◌+◌, ◌*◌, ◌^◌, ◌<◌, ◌≤◌, List, [], ◌∷◌, ◌++◌, Option, None, Some, IfSome, Result, Ok, Err, Bool, true, false, IsTrue, length, length-append, take, drop, refl, sym, ap, subst, ◌∙◌, arith}
use Rattle.flow_io.specs.Windows.{WindowState}
use Rattle.std.specs.Prelude.{is_some, not, Contains}
use Rattle.std.proofs.lemmas.List.Elements.{Contains-append_left, Contains-push}
use Rattle.memchr.specs.Find.{IsFirstByte, is_byte}
use Rattle.flow_io.specs.Faults.{Blames, Rose}
use Rattle.line_records.proofs.Pieces.{line_found}
use Rattle.market_rules.specs.Market.{Market}
use Rattle.market_history.specs.Histories.{Start}
use Rattle.line_records.specs.Lines.{HasNoFeed, ended_by_feeds}
use Rattle.input_lines.specs.Finding.{FindsNextWithin, FindsNoFeed}
use Rattle.input_lines.specs.declared.lines.Next.{Next}
use Rattle.input_lines.specs.declared.lines.Next.TheVariants as next
use Rattle.disk_edge.specs.Disks.{DiskState, IsDisk}
use Rattle.journal_disk.specs.Entries.{most_unkept}
use Rattle.journal_keeping.specs.Keeping.{HoldsLegal}
use Rattle.journal_keeping.specs.Lengths.{longest_stored_entry}
use Rattle.journal_keeping.specs.Outputs.{Output}
use Rattle.desk_lines.specs.Hearing.{most_envelope}
use Rattle.desk_session.specs.States.{CountsAccounts}
use Rattle.desk_session.specs.Bounds.{IsWithin}
use Rattle.desk_opening.specs.Books.{CanKeep}
use Rattle.desk_opening.specs.Openings.{HasOpened, place_of}
use Rattle.desk_opening.specs.declared.book.Book.{Book}
use Rattle.desk_opening.specs.declared.book.Book.TheVariants.{Kept, Open}
use Rattle.wire_records.specs.Commands.{Command}
use Rattle.desk_keeping.specs.Hosting.{Entries, HasFirstLines, HostsIn, ComesTo, HasTakenBeginning}
use Rattle.desk_keeping.specs.declared.fault.HostFault.{HostFault}
use Rattle.desk_keeping.specs.declared.fault.HostFault.TheVariants.{Read, Write, Disk, Memory, NotDisk, Damaged, Rejected, NotFlow, BadCheckpoint, TooLong, Differs}
use Rattle.desk_keeping.specs.Private.{HostState, IsLeftAlone, IsOrdered, CanRead, FileGoes, IsFileAt, HasGone, IsHosting, IsWithinLines, MaySettle, BreaksGroup, AnswersLong, HearsLine, BreaksLine, EndsLine, BreaksEnd, StopsHere, IsAtEntry, StopsWithin, WhyNot}
use Rattle.desk_keeping.proofs.Files.{along_now}
use Rattle.desk_keeping.proofs.Leaving.{Carries}
use Rattle.desk_keeping.proofs.Ending.{AreFirst}
use Rattle.desk_keeping.proofs.Steps.{ordered, can_keep, first_host, at_begin, gone_begin, within_begin}
use Rattle.desk_keeping.proofs.Settled.{at_settled, settled_all, settled_within}
use Rattle.desk_keeping.proofs.NextLine.{at_long, within_long, at_line, within_line}
use Rattle.desk_keeping.proofs.Reaching.{are_first, few_at}
use Rattle.desk_keeping.proofs.Passing.{gone_found, gone_long, gone_line, are_next}
use Rattle.desk_keeping.proofs.Broken.{hosts_at, breaks_settle, breaks_end}
use Rattle.desk_keeping.proofs.Stopped.{breaks_line}
use Rattle.desk_keeping.proofs.Untouched.{IsSpared, spared_alone, spared_group, spared_end, file_spared, heard_spared, line_spared}
use Rattle.desk_keeping.proofs.Comes.{comes_ended, comes_limit, comes_unread, comes_stopped, comes_broken, comes_unended, comes_memory}

-- as many line feeds as lines
feeds_count : (lines : List (List ℕ)) → length lines ≤ length (ended_by_feeds lines)
feeds_count [] = omega arith
feeds_count (line ∷ lines) = omega (arith, feeds_count lines, length-append (line ++ 10 ∷ []) (ended_by_feeds lines), length-append line (10 ∷ []))

-- what holds whatever the content is
pub always : (o : Option (List ℕ)) (P : List ℕ → Type 0) → ((held : List ℕ) → o ≡ Some held → P held) → IfSome o P
always None P f = tt
always (Some held) P f = f held refl

pub same_result : (a b : HostFault) → ◌≡◌ {A = Result (Unit {0}) HostFault} (Err a) (Err b) → a ≡ b
same_result a b e = cc

module _ (limit : ℕ) (content : Option (List ℕ)) (start : DiskState) (first : Output) where
  -- what the loop results in: what a crash leaves, what it comes to, and that a file without a valid journal was only looked at
  abbrev pub Results : DiskState → Output → Option (List ℕ) → Result (Unit {0}) HostFault → Type 0
  Results end last rest result =
      ((was : Start) (old : Entries) (m : Market) → HoldsLegal start was old m → HostsIn limit content (result ≡ Err Write) was start end old m first last)
      × IfSome start.content (λ held. ComesTo limit held content rest start end first last result)
      × IsLeftAlone start end

  -- before the first line
  pub hosting_begins : (mid : DiskState) (market : Market) (book : Book) (window : WindowState) (rest : Option (List ℕ)) → HasOpened most_envelope limit start mid market book window content rest → CountsAccounts (first_host market book).session
      → IsHosting limit content rest start mid first first window (first_host market book)
  hosting_begins mid market book window rest opened counted = record {
    begin = opened.begin;
    alone = opened.alone;
    read = [];
    at = at_begin limit start mid market book window content rest opened first counted;
    gone = gone_begin limit start mid market book window content rest opened;
    within = within_begin limit start mid market book window content rest opened;
  }

  module _ (left : Option (List ℕ)) (now : DiskState) (out : Output) (w : WindowState) (h : HostState) (x : IsHosting limit content left start now first out w h) where
    pub few_lines : limit ≤ 2 ^ 40 → length x.read ≤ 2 ^ 40
    few_lines few = omega (arith, few, feeds_count x.read, x.gone.place, x.gone.is_open.within, x.gone.limited)

    pub is_ordered : IsOrdered h
    is_ordered = ordered x.begin start now first out x.read h x.at

    pub can_settle : limit ≤ 2 ^ 40 → ◌≢◌ h.group [] → CanKeep h.group h.book now
    can_settle few some = can_keep x.begin start now first out x.read h x.at (length x.read) x.within (few_lines few) some

    pub has_room : (more : ℕ) → more ≤ 33 → limit ≤ 2 ^ 40 → (used : ℕ) × IsWithin used h.session × (used + more ≤ 2 ^ 48)
    has_room more some few = (33 * length x.read, x.within.within, omega (arith, few_lines few, some))

    pub can_read : IsDisk now → CanRead h.book now h.session.market
    can_read is_disk = by_book h.book x.at.file
      where
        by_book : (b : Book) → IsFileAt x.begin start b now x.at.safe x.at.waiting h.session.market → CanRead b now h.session.market
        by_book (Kept place ahead) (none, along) = (x.begin, x.at.safe, along_now x.begin place ahead start now x.at.safe h.session.market is_disk along)
        by_book (Open place) file = tt

    -- ---- the loop goes on

    pub hosting_settled : (later : DiskState) (after : Output) (n : HostState) (is_last : Bool) (SameDisk SameOut : Type 0) → Carries SameDisk now later → (SameOut → (P : Output → Type 0) → P out → P after)
        → MaySettle is_last h n now later out after SameDisk SameOut → IsHosting limit content left start later first after w n
    hosting_settled later after n is_last SameDisk SameOut carry carry_out settles = record {
      begin = x.begin;
      alone = x.alone;
      read = x.read;
      at = at_settled x.begin start now later first out after x.read h n SameDisk SameOut is_last x.at settles carry carry_out;
      gone = x.gone;
      within = settled_within x.begin start now later first out after x.read h n SameDisk SameOut is_last x.at settles (length x.read) x.within;
    }

    pub all_settled : (later : DiskState) (after : Output) (n : HostState) (is_last : Bool) (SameDisk SameOut : Type 0) → MaySettle is_last h n now later out after SameDisk SameOut → IsTrue is_last → (n.group ≡ []) × (drop n.written n.session.talk.texts ≡ [])
    all_settled later after n is_last SameDisk SameOut settles last = settled_all x.begin start now later first out after x.read h n SameDisk SameOut is_last x.at settles last

    one_more : (line : List ℕ) → length (x.read ++ line ∷ []) ≡ length x.read + 1
    one_more line = length-append x.read (line ∷ [])

    pub hosting_long : (new : WindowState) (rest : Option (List ℕ)) (n : HostState) → FindsNextWithin most_envelope w new left rest next.Long → ((line : List ℕ) → most_envelope < length line → AnswersLong line h n) → n.told ≡ length n.session.talk.texts
        → CountsAccounts n.session → ((used : ℕ) → IsWithin used h.session → IsWithin (used + 1) n.session) → IsHosting limit content rest start now first out new n
    hosting_long new rest n finds answers told counts room =
        let gone = gone_long x.begin limit w content left x.read x.gone new rest finds in
        let answered = answers gone.0 gone.1 in
        record {
          begin = x.begin;
          alone = x.alone;
          read = x.read ++ gone.0 ∷ [];
          at = at_long x.begin start now first out x.read gone.0 h n answered x.at told counts;
          gone = gone.2;
          within = subst (λ (k : ℕ). IsWithinLines k n) (sym (one_more gone.0)) (within_long x.begin start now first out x.read gone.0 h n answered (length x.read) room x.within);
        }

    -- ---- the loop ends

    are : AreFirst limit content x.begin x.read
    are = are_first x.begin limit w content left x.read x.gone

    few_waiting : length h.group ≤ most_unkept
    few_waiting = omega (arith, x.within.short)

    spared : IsSpared start h.book h.group now
    spared = file_spared start x.begin now x.at.safe x.at.waiting h.session.market h.book h.group x.at.group x.at.file

    begun : HasTakenBeginning limit content left
    begun = (few_at x.begin limit w content left x.read x.gone).1

    pub left_alone : IsLeftAlone start now
    left_alone = spared_alone start h.book h.group now spared

    -- what waits wasn't kept, or not written
    pub settle_broken : (n : HostState) (later : DiskState) (after : Output) (Same : Type 0) (fault : HostFault) → IsDisk later → Carries Same now later → BreaksGroup fault h n now later out after Same → Results later after left (Err fault)
    settle_broken n later after Same fault is_disk carry breaks = (
      λ was old m holds. breaks_settle limit content x.begin was start old m holds x.alone first x.read h now out x.at few_waiting are fault n later after Same is_disk carry (◌≡◌ {A = Result (Unit {0}) HostFault} (Err fault) (Err Write)) (λ is. ap (λ (f : HostFault). Err f) is) breaks,
      always start.content _ (λ held told. comes_broken x.begin start held told x.alone first x.read h now out x.at limit content left begun are later after n Same fault breaks),
      spared_group start h n now later Same carry spared out after fault breaks,
    )

    -- memory ran out, and nothing was done
    pub out_of_memory : (rest : Option (List ℕ)) → IsDisk now → Results now out rest (Err Memory)
    out_of_memory rest is_disk = (
      λ was old m holds. hosts_at limit content x.begin was start old m holds x.alone first x.read h now out x.at few_waiting are is_disk (◌≡◌ {A = Result (Unit {0}) HostFault} (Err Memory) (Err Write)),
      always start.content _ (λ held told. comes_memory x.begin start held told x.alone first x.read h now out x.at limit content rest are),
      left_alone,
    )

    module _ (none : h.group ≡ []) (written : drop h.written h.session.talk.texts ≡ []) (new : WindowState) (rest : Option (List ℕ)) (is_disk : IsDisk now) where
      all_hosted : (result : Result (Unit {0}) HostFault) (was : Start) (old : Entries) (m : Market) → HoldsLegal start was old m → HostsIn limit content (result ≡ Err Write) was start now old m first out
      all_hosted result was old m holds = hosts_at limit content x.begin was start old m holds x.alone first x.read h now out x.at few_waiting are is_disk (result ≡ Err Write)

      pub ended : (found : Next) → (found ≡ next.Last) ⊎ ((found ≡ next.LongLast) ⊎ (found ≡ next.End)) → FindsNextWithin most_envelope w new left rest found → Results now out rest (Ok tt)
      ended found which finds = (
        all_hosted (Ok tt),
        always start.content _ (λ held told. comes_ended x.begin start held told x.alone first x.read h now out x.at limit w content left x.gone none written new rest found which finds),
        left_alone,
      )

      pub limited : FindsNextWithin most_envelope w new left rest next.Limit → Results now out rest (Err TooLong)
      limited finds = (all_hosted (Err TooLong), always start.content _ (λ held told. comes_limit x.begin start held told x.alone first x.read h now out x.at limit w content left x.gone none written new rest finds), left_alone)

      pub unread : FindsNoFeed w left rest → Results now out rest (Err Read)
      unread finds = (all_hosted (Err Read), always start.content _ (λ held told. comes_unread x.begin start held told x.alone first x.read h now out x.at limit w content left x.gone none written new rest finds), left_alone)

    in_order_still : (line : List ℕ) (mid : HostState) (then : DiskState) (Why : (number : ℕ) → Market → List Command → (place : ℕ) → List ℕ → Type 0) → StopsWithin line h mid now then Why → IsOrdered mid
    in_order_still line mid then Why stops = (omega (arith, is_ordered.0, stops.aside.told, stops.aside.written), omega (arith, is_ordered.1, stops.aside.told, ap (λ (t : List (List ℕ)). length t) stops.said, length-append h.session.talk.texts stops.texts))

    -- where it stopped at an entry of the file, the texts are in order
    pub stops_ordered : (line : List ℕ) (mid : HostState) (then : DiskState) (One : Type 0) (fault : HostFault) → BreaksLine fault line h mid now then One → IsAtEntry fault → IsOrdered mid
    stops_ordered line mid then One (Damaged place) breaks at = in_order_still line mid then (WhyNot (Damaged place)) breaks
    stops_ordered line mid then One (Rejected number) breaks at = in_order_still line mid then (WhyNot (Rejected number)) breaks
    stops_ordered line mid then One (Differs number) breaks at = in_order_still line mid then (WhyNot (Differs number)) breaks
    stops_ordered line mid then One Memory breaks at = absurd at
    stops_ordered line mid then One Disk breaks at = absurd at
    stops_ordered line mid then One Read breaks at = absurd at
    stops_ordered line mid then One Write breaks at = absurd at
    stops_ordered line mid then One NotDisk breaks at = absurd at
    stops_ordered line mid then One NotFlow breaks at = absurd at
    stops_ordered line mid then One BadCheckpoint breaks at = absurd at
    stops_ordered line mid then One TooLong breaks at = absurd at

    -- ---- a line that the window holds

    module _ (new : WindowState) (rest : Option (List ℕ)) (size : ℕ) (finds : FindsNextWithin most_envelope w new left rest (next.Line size)) where
      abbrev line : List ℕ
      line = take size new.held

      gone_now : HasGone x.begin limit new content rest x.read
      gone_now = gone_found x.begin limit w content left x.read x.gone new rest size finds

      begun_line : HasTakenBeginning limit content rest
      begun_line = (few_at x.begin limit new content rest x.read gone_now).1

      inside : size < length new.held
      inside = omega (arith, ap length finds.is.0, finds.is.2)

      piece : HasNoFeed line
      piece = subst (λ (l : List ℕ). HasNoFeed (take size l)) (sym finds.is.0) finds.is.4

      parts : new.held ≡ line ++ 10 ∷ drop (size + 1) new.held
      parts = subst (λ (l : List ℕ). l ≡ take size l ++ 10 ∷ drop (size + 1) l) (sym finds.is.0) finds.is.5

      pub can_advance : size + 1 ≤ length new.held
      can_advance = omega (arith, inside)

      are_line : IfSome content (λ bytes. HasFirstLines (take limit bytes) x.begin (x.read ++ line ∷ []))
      are_line = are_next x.begin limit new content rest x.read gone_now size inside piece parts

      module _ (mid : HostState) (then : DiskState) (One : Type 0) (is_disk : IsDisk now) (is_then : IsDisk then) (one : Carries One now then) where
        -- it wasn't heard to its end
        pub line_broken : (after : Output) (SameOut : Type 0) (fault result : HostFault) → (SameOut → (P : Output → Type 0) → P out → P after) → BreaksLine fault line h mid now then One → StopsHere fault result mid out after SameOut → Results then after rest (Err result)
        line_broken after SameOut fault result carry_out breaks stops = (
          λ was old m holds. breaks_line limit content x.begin was start old m holds x.alone first x.read h now out x.at few_waiting are then is_disk is_then One one line are_line mid after SameOut carry_out fault result
              (◌≡◌ {A = Result (Unit {0}) HostFault} (Err result) (Err Write)) (λ is. ap (λ (f : HostFault). Err f) is) breaks stops,
          always start.content _ (λ held told. comes_stopped x.begin start held told x.alone first x.read h now out x.at limit content rest then is_disk line are are_line mid One after SameOut carry_out begun_line fault result breaks stops),
          line_spared start x.begin first x.read h now then out x.at is_disk line mid One fault breaks,
        )

        module _ (heard : HearsLine line h mid now then One) where
          pub heard_ordered : IsOrdered mid
          heard_ordered = (omega (arith, is_ordered.0, heard.aside.told, heard.aside.written), omega (arith, is_ordered.1, heard.aside.told, ap (λ (t : List (List ℕ)). length t) heard.said, length-append h.session.talk.texts heard.texts))

          pub heard_keeps : limit ≤ 2 ^ 40 → ◌≢◌ mid.group [] → CanKeep mid.group mid.book then
          heard_keeps few some = by_books h.book mid.book x.at.file heard.goes (can_settle few (λ none. some (heard.aside.group ∙ none)))
            where
              by_books : (b c : Book) → IsFileAt x.begin start b now x.at.safe x.at.waiting h.session.market → FileGoes b c now then One h.session.market heard.taken heard.made mid.session.market → CanKeep h.group b now → CanKeep mid.group c then
              by_books (Kept p a) c file goes can = absurd can
              by_books (Open p) (Kept q d) file goes can = absurd goes
              by_books (Open p) (Open q) file goes can = subst (λ (l : List ℕ). CanKeep l (Open q) then) (sym heard.aside.group) (subst (λ (k : ℕ). CanKeep h.group (Open k) then) (sym goes.1) (one goes.2 (λ s. CanKeep h.group (Open p) s) can))

          spared_mid : IsSpared start mid.book mid.group then
          spared_mid = heard_spared start x.begin now x.at.safe x.at.waiting h.session.market is_disk then One h.book mid.book mid.group heard.taken heard.made mid.session.market (heard.aside.group ∙ x.at.group) x.at.file heard.goes

          module _ (n : HostState) (later : DiskState) (after : Output) (SameDisk SameOut : Type 0) (carry : Carries SameDisk then later) (carry_out : SameOut → (P : Output → Type 0) → P out → P after) where
            -- it wasn't ended
            pub unended : (fault : HostFault) → IsDisk later → BreaksEnd fault mid n then later out after SameDisk SameOut → Results later after rest (Err fault)
            unended fault is_later breaks = (
              λ was old m holds. breaks_end limit content x.begin was start old m holds x.alone first x.read h now out x.at few_waiting are then is_disk is_then One one line mid n heard later after SameDisk SameOut is_later carry carry_out fault
                  (◌≡◌ {A = Result (Unit {0}) HostFault} (Err fault) (Err Write)) (λ is. ap (λ (f : HostFault). Err f) is) breaks,
              always start.content _ (λ held told. comes_unended x.begin start held told x.alone first x.read h now out x.at limit content rest begun_line are later after line mid n then One SameDisk SameOut heard carry_out fault breaks),
              spared_end start mid n then later SameDisk carry spared_mid out after SameOut fault breaks,
            )

            -- it was answered
            pub hosting_line : (past : WindowState) → EndsLine mid n then later out after SameDisk SameOut → CountsAccounts mid.session → ((used : ℕ) → IsWithin used h.session → IsWithin (used + 33) mid.session) → length mid.fresh ≤ longest_stored_entry
                → (mid.book ≡ h.book) ⊎ (place_of mid.book ≤ 2 ^ 60) → (length mid.fresh ≤ 1048576 → length n.group ≤ 1048576) → past ≡ record new { held = drop (size + 1) new.held; place = new.place + (size + 1) }
                → IsHosting limit content rest start later first after past n
            hosting_line past ends counts room few near short is = record {
              begin = x.begin;
              alone = x.alone;
              read = x.read ++ line ∷ [];
              at = at_line x.begin start now then later first out after x.read line h mid n One SameDisk SameOut is_disk x.at heard ends one carry carry_out counts x.alone;
              gone = gone_line x.begin limit new content rest x.read gone_now size inside piece parts past is;
              within = subst (λ (k : ℕ). IsWithinLines k n) (sym (one_more line)) (within_line x.begin start now then later first out after x.read line h mid n One SameDisk SameOut is_disk x.at heard ends (length x.read) room few near short x.within);
            }

-- ---- what is last in a window

-- no line feed is held, so none was found
pub none_found : (held : List ℕ) (found : Option ℕ) (last : Bool) → IsFirstByte (is_byte 10) held found → HasNoFeed held → is_some found ≡ not last → IsTrue last
none_found held None false first piece is = absurd cc
none_found held None true first piece is = refl
none_found held (Some k) last first piece is =
    let one = line_found held k first in
    absurd (piece (subst (λ (l : List ℕ). Contains l 10) (sym one.0.1) (Contains-append_left (take k held ++ 10 ∷ []) (drop (k + 1) held) 10 (Contains-push (take k held) 10))))

-- ---- faults that are blamed

pub blames_from : (P Q : Type 0) (a b c : ℕ) → b ≡ a → (P → Q) → (Q → P) → Blames P b c → Blames Q a c
blames_from P Q a b c same to from blames = record {
  later = omega (arith, same, blames.later);
  rose = λ q. subst (λ (n : ℕ). Rose n c) same (blames.rose (from q));
  quiet = λ not. blames.quiet (λ p. not (to p)) ∙ same;
}

pub blames_none : (Q : Type 0) (a c : ℕ) → c ≡ a → ¬ Q → Blames Q a c
blames_none Q a c same not = record { later = omega (arith, same); rose = λ q. absurd (not q); quiet = λ none. same }

-- where a host stopped is a fault of the disk if what stopped it was
pub stops_disk : (fault result : HostFault) (old : HostState) (out later : Output) (SameOut : Type 0) → StopsHere fault result old out later SameOut → ((fault ≡ Disk) → result ≡ Disk) × ((result ≡ Disk) → fault ≡ Disk) × ((result ≡ Read) → fault ≡ Read)
stops_disk fault result old out later SameOut (inl (other, same, quiet)) = ((λ is. same ∙ is), (λ is. sym same ∙ is), (λ is. sym same ∙ is))
stops_disk fault result old out later SameOut (inr (at, inl (same, gained))) = ((λ is. same ∙ is), (λ is. sym same ∙ is), (λ is. sym same ∙ is))
stops_disk fault result old out later SameOut (inr (at, inr (writes, count, gained))) = (
  (λ is. absurd (subst IsAtEntry is at)),
  (λ is. absurd (let both : Write ≡ Disk = sym writes ∙ is in cc)),
  (λ is. absurd (let both : Write ≡ Read = sym writes ∙ is in cc)),
)

-- bytes without a line feed begin with such
pub unread_piece : (held joined : List ℕ) → HasNoFeed (held ++ joined) → HasNoFeed held
unread_piece held joined piece has = piece (Contains-append_left held joined 10 has)

pub empty_held : (held joined : List ℕ) → held ++ joined ≡ [] → HasNoFeed held
empty_held [] joined none = All-nil-piece
  where
    All-nil-piece : HasNoFeed []
    All-nil-piece (k, inside, is) = omega (arith, inside)
empty_held (x ∷ held) joined none = absurd (let size = ap length none in omega (arith, size))

-- a read of the input isn't what failed
pub settle_own : (fault : HostFault) (n h : HostState) (now later : DiskState) (out after : Output) (Same : Type 0) → BreaksGroup fault h n now later out after Same → fault ≡ Read → ⊥
settle_own fault n h now later out after Same breaks is = subst (λ (f : HostFault). BreaksGroup f h n now later out after Same) is breaks

pub end_own : (fault : HostFault) (n h : HostState) (now later : DiskState) (out after : Output) (Same SameOut : Type 0) → BreaksEnd fault h n now later out after Same SameOut → fault ≡ Read → ⊥
end_own fault n h now later out after Same SameOut breaks is = subst (λ (f : HostFault). BreaksEnd f h n now later out after Same SameOut) is breaks

-- neither of two faults
pub neither : (P Q : Type 0) → ¬ P → ¬ Q → ¬ (P ⊎ Q)
neither P Q not_one not_other (inl p) = not_one p
neither P Q not_one not_other (inr q) = not_other q

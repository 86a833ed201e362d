-- A line that was heard: its commands, or that it has none.
use Rattle.std.proofs.Common.{◌≡◌, ℕ, ◌+◌, List, [], ◌∷◌, ◌++◌, ◌≤◌, length, map, refl, sym, ap, subst, ◌∙◌, arith}
use Rattle.std.specs.Prelude.{⊤, All}
use Rattle.std.proofs.lemmas.List.{append-nil}
use Rattle.std.proofs.lemmas.List.Elements.{All-nil, All-cons, All-head, All-tail}
use Rattle.wire_records.specs.Commands.{Command}
use Rattle.flow_orders.specs.Outcomes.{IsAdmissibleOutcome}
use Rattle.market_rules.specs.Market.{Market}
use Rattle.order_text.specs.Lines.{Asked, OfLadder, commands_of}
use Rattle.answer_text.specs.declared.header.Recipient.{Recipient}
use Rattle.disk_edge.specs.Disks.{DiskState, IsDisk}
use Rattle.desk_messages.specs.Desks.{Desks, with_line}
use Rattle.desk_session.specs.Talks.{Talk}
use Rattle.desk_session.specs.States.{State}
use Rattle.desk_session.specs.Said.{IsAnswered, AsksFor}
use Rattle.desk_session.specs.Lines.{AreServed, IsLineBegun}
use Rattle.desk_session.proofs.Answered.{asked_few}
use Rattle.desk_session.proofs.Going.{line_by_any, follows_line, begun_all}
use Rattle.desk_keeping.specs.Hosting.{Entries, Texts}
use Rattle.desk_keeping.specs.declared.fault.HostFault.{HostFault}
use Rattle.desk_keeping.specs.declared.fault.HostFault.TheVariants as host
use Rattle.desk_keeping.specs.Private.{HostState, stored, CanRead, FileGoes, LeavesFile, AnswersAll, AnswersOne, StopsAmong, BreaksOne, BreaksAll, WhyNot, HearsLine, StopsWithin, BreaksLine}
use Rattle.desk_keeping.proofs.Files.{goes_none}
use Rattle.desk_keeping.proofs.Commands.{end_none, all_none, all_more, breaks_more}

-- ---- a line without commands

pub hears_none : (line : List ℕ) (h : HostState) (s : State) (disk : DiskState) (Same : Type 0) → Same → h.fresh ≡ [] → IsAnswered h.session line s → HearsLine line h (record h { session = s }) disk disk Same
hears_none line h s disk Same same empty (texts, served, said, entries) =
    let any = line_by_any IsAdmissibleOutcome h.session.market s.market h.session.talk.desks s.talk.desks h.session.entries line texts served in
    let still : s.market ≡ h.session.market = follows_line IsAdmissibleOutcome h.session.market s.market h.session.talk.desks s.talk.desks h.session.entries line [] texts any in
    record {
      taken = [];
      made = [];
      texts = texts;
      served = any;
      said = said;
      entries = omega (arith, entries);
      goes = subst (λ (k : Market). FileGoes h.book h.book disk disk Same h.session.market [] [] k) (sym still) (goes_none h.book disk Same h.session.market same);
      more = end_none h.book;
      fresh = empty;
      aside = record { group = refl; told = refl; written = refl };
    }

-- ---- a line with commands

module _ (line : List ℕ) (h : HostState) (s : State) (sender : Recipient) (number : ℕ) (asked : Asked) (asks : AsksFor h.session line sender number asked s) where
  -- the first commands of it
  begun_so : (first next : List Command) (pairs : Entries) (texts : Texts) (new : Market) (later : Desks) → commands_of asked ≡ first ++ next → AreServed IsAdmissibleOutcome s.market s.talk.desks s.entries sender number first pairs texts new later
      → IsLineBegun IsAdmissibleOutcome h.session.market h.session.talk.desks h.session.entries line sender next pairs texts new later
  begun_so first next pairs texts new later parts served = record {
    text = asks.text;
    asked = asked;
    is_heard = asks.heard;
    wished = asks.wished;
    first = first;
    parts = parts;
    served = subst (λ (n : ℕ). AreServed IsAdmissibleOutcome h.session.market (with_line h.session.talk.desks sender) h.session.entries sender n first pairs texts new later) asks.number_is
        (subst (λ (n : ℕ). AreServed IsAdmissibleOutcome h.session.market (with_line h.session.talk.desks sender) n sender number first pairs texts new later) asks.entries
        (subst (λ (d : Desks). AreServed IsAdmissibleOutcome h.session.market d s.entries sender number first pairs texts new later) (ap (λ (t : Talk). t.desks) asks.talk)
        (subst (λ (m : Market). AreServed IsAdmissibleOutcome m s.talk.desks s.entries sender number first pairs texts new later) asks.market served)));
  }

  module _ (n : HostState) (disk now : DiskState) (Same : Type 0) (empty : h.fresh ≡ []) where
    pub hears_all : AnswersAll sender number (commands_of asked) (record h { session = s }) n disk now Same → HearsLine line h n disk now Same
    hears_all all = record {
      taken = all.taken;
      made = all.made;
      texts = all.texts;
      served = begun_all IsAdmissibleOutcome h.session.market n.session.market h.session.talk.desks n.session.talk.desks h.session.entries line sender (all.taken ++ all.made) all.texts
          (begun_so (commands_of asked) [] (all.taken ++ all.made) all.texts n.session.market n.session.talk.desks (sym (append-nil (commands_of asked))) all.served);
      said = all.said ∙ ap (λ (t : Texts). t ++ all.texts) (ap (λ (t : Talk). t.texts) asks.talk);
      entries = all.entries ∙ ap (λ (x : ℕ). x + length (all.taken ++ all.made)) asks.entries;
      goes = subst (λ (m : Market). FileGoes h.book n.book disk now Same m all.taken all.made n.session.market) asks.market all.goes;
      more = all.more;
      fresh = all.fresh ∙ ap (λ (l : List ℕ). l ++ stored all.made) empty;
      aside = record { group = all.aside.group; told = all.aside.told; written = all.aside.written };
    }

    -- it stopped
    stops_within : (Why : (number : ℕ) → Market → List Command → (place : ℕ) → List ℕ → Type 0) → StopsAmong sender number (commands_of asked) (record h { session = s }) n disk now Why → StopsWithin line h n disk now Why
    stops_within Why stops = record {
      next = stops.next;
      asks = stops.asks;
      taken = stops.taken;
      texts = stops.texts;
      sender = sender;
      begun = begun_so stops.first stops.next stops.taken stops.texts n.session.market n.session.talk.desks stops.parts stops.served;
      said = stops.said ∙ ap (λ (t : Texts). t ++ stops.texts) (ap (λ (t : Talk). t.texts) asks.talk);
      place = stops.place;
      ahead = stops.ahead;
      book = stops.book;
      later = stops.later;
      piece = stops.piece;
      goes = rw (← asks.market) stops.goes;
      why = rw (← asks.entries) stops.why;
      aside = record { group = stops.aside.group; told = stops.aside.told; written = stops.aside.written };
    }

    pub breaks_line : (fault : HostFault) → BreaksAll fault sender number (commands_of asked) (record h { session = s }) n disk now Same → BreaksLine fault line h n disk now Same
    breaks_line host.Memory breaks = subst (λ (m : Market). LeavesFile h.book disk now Same m) asks.market breaks
    breaks_line host.Disk breaks = subst (λ (m : Market). LeavesFile h.book disk now Same m) asks.market breaks
    breaks_line host.Read breaks = stops_within (WhyNot host.Read) breaks
    breaks_line host.Write breaks = stops_within (WhyNot host.Write) breaks
    breaks_line host.NotDisk breaks = stops_within (WhyNot host.NotDisk) breaks
    breaks_line (host.Damaged at) breaks = stops_within (WhyNot (host.Damaged at)) breaks
    breaks_line (host.Rejected at) breaks = stops_within (WhyNot (host.Rejected at)) breaks
    breaks_line host.NotFlow breaks = stops_within (WhyNot host.NotFlow) breaks
    breaks_line host.BadCheckpoint breaks = stops_within (WhyNot host.BadCheckpoint) breaks
    breaks_line host.TooLong breaks = stops_within (WhyNot host.TooLong) breaks
    breaks_line (host.Differs at) breaks = stops_within (WhyNot (host.Differs at)) breaks

-- ---- one command

module _ (sender : Recipient) (line : ℕ) (command : Command) (h n : HostState) (disk now : DiskState) (Same : Type 0) (is_disk : IsDisk disk) (carry : Same → (P : DiskState → Type 0) → P disk → P now) where
  pub all_one : AnswersOne sender line command h n disk now Same → AnswersAll sender line (command ∷ []) h n disk now Same
  all_one one = all_more sender line [] h h disk disk ⊤ (all_none sender line h disk ⊤ tt) command n now Same Same is_disk (λ none same. same) carry one

  pub breaks_one : (fault : HostFault) → CanRead h.book disk h.session.market → BreaksOne fault command h n disk now Same → BreaksAll fault sender line (command ∷ []) h n disk now Same
  breaks_one fault can breaks = breaks_more sender line [] h h disk disk ⊤ (all_none sender line h disk ⊤ tt) n now Same Same command [] fault is_disk (λ none same. same) carry can breaks

-- ---- how many there are

-- what holds of each value of a list
pub all_under : {A B : Type 0} (P : B → Type 0) (f : A → B) (l : List A) → All P (map f l) → All (λ x. P (f x)) l
all_under P f [] each = All-nil (λ x. P (f x))
all_under P f (x ∷ l) each = All-cons (λ y. P (f y)) x l (All-head P (f x) (map f l) each) (all_under P f l (All-tail P (f x) (map f l) each))

-- a ladder that a line asks for has 32 commands at most
pub ladder_few : (h s : State) (line : List ℕ) (sender : Recipient) (number : ℕ) (commands : List Command) → AsksFor h line sender number (OfLadder commands) s → length commands ≤ 32
ladder_few h s line sender number commands asks = asked_few h.market.version h.market.tickers asks.text (OfLadder commands) asks.wished.1

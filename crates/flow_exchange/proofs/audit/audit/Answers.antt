use Rattle.std.proofs.Common.{ap, subst}
use Rattle.flow_io.specs.Changes.{change}
use Rattle.word_driver.specs.Does as driver
use Rattle.market_rules.specs.Market.{Market}
use Rattle.history_words.specs.Histories.{over_history}
use Rattle.journal_words.specs.Watching.{Watched}
use Rattle.journal_words.specs.Words.{Counts, audit}
use Rattle.journal_words.proofs.JournalLaws.{audit_is_exact}
use Rattle.flow_exchange.specs.declared.form.Form.TheVariants.{Audit}
use Rattle.flow_exchange.specs.Private.{rejected}
use Rattle.flow_exchange.proofs.Words.{does, not_asked}
use Rattle.flow_exchange.proofs.HistoryForms.{audit_form, audit_from}
use Rattle.flow_exchange.proofs.audit.audit.Goals as goal

-- what has counted so far
abbrev counted : (Market → Counts) → Market → Watched Counts
counted seen market = record { market = market; pairs = 0; seen = seen market }

pub go_history-ended-requires : goal.go_history-ended-requires
go_history-ended-requires g c = record { exact = audit_is_exact; within = c.new.ensures.within }

pub returns : goal.returns
returns g c =
    let source = change g.S.Source.rest g.S.Source.faults c.args.source.now c.go_history-ended.new.source in
    let out = change g.K.Sink.held g.K.Sink.faults c.args.out.now c.go_history-ended.new.out in
    let done = subst (λ (begins : Market → Watched Counts). driver.Does (over_history audit begins) c.args.limit c.go_history-ended.result source out) (ap counted c.new.ensures.none) c.go_history-ended.ensures.does in
    record {
      asked = rw c.pairs_status.ensures (not_asked (over_history audit audit_from) Audit c.args.limit rejected audit_form c.go_history-ended.result);
      does = rw c.pairs_status.ensures (does (over_history audit audit_from) Audit c.args.limit rejected audit_form c.go_history-ended.result source out (λ e. tt) done);
    }

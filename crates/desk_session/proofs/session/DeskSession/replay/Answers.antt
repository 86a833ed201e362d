use Rattle.std.proofs.Common.{ap, subst, ◌∙◌}
use Rattle.batch_audit.specs.Legal.{IsIllegalPair}
use Rattle.desk_session.specs.States.{State}
use Rattle.desk_session.proofs.session.DeskSession.replay.Goals as goal

pub returns-in-None-2-clause-replayed : goal.returns-in-None-2-clause-replayed
returns-in-None-2-clause-replayed c =
    let illegal : IsIllegalPair c.self.inside.market c.args.pair.now = rw c.in-None-2.is at c.in_ok-judge-in-Some.ensures.weighed in (
      subst (λ (s : State). IsIllegalPair s.market c.args.pair.now) c.self.view_is illegal,
      record {
        market = c.in_ok-judge-in-Some.ensures.stays ∙ ap (λ (s : State). s.market) c.self.view_is;
        talk = ap (λ (s : State). s.talk) c.self.view_is;
        entries = ap (λ (s : State). s.entries) c.self.view_is;
      },
    )

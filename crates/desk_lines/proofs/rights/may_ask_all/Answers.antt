use Rattle.std.proofs.Common.{◌≡◌, ◌<◌, false, subst, length, map, get_or, refl, sym, ◌∙◌, rules, arith, All}
use Rattle.std.proofs.lemmas.Bool.{true≢false, false≢true}
use Rattle.std.proofs.lemmas.List.{take_all, get_or-map, length-map}
use Rattle.std.proofs.lemmas.List.Elements.{All-more, All-map}
use Rattle.wire_records.specs.Views.{command_in}
use Rattle.desk_lines.specs.Rights.{MayAsk}
use Rattle.desk_lines.proofs.rights.may_ask_all.Goals as goal

pub loop-command-preserved : goal.loop-command-preserved
loop-command-preserved c =
    let here : MayAsk c.args.sender (command_in c.command-item.result) = c.may_ask.ensures.0 (search rules) in
    All-more (λ command. MayAsk c.args.sender (command_in command)) c.args.commands.now c.loop-command.command-index c.command-item.result c.loop-command-test.true c.loop-command.invariant
    (subst (λ command. MayAsk c.args.sender (command_in command)) c.command-item.is here)

pub returns-then-not-may_ask : goal.returns-then-not-may_ask
returns-then-not-may_ask c = (
  λ told. absurd (false≢true told),
  λ all.
      let place = c.loop-command.command-index in
      let command = c.command-item.result in
      let within : place < length (map command_in c.args.commands.now) = omega (arith, c.loop-command-test.true, length-map c.args.commands.now command_in) in
      let there : MayAsk c.args.sender (command_in (get_or c.args.commands.now place command)) =
      subst (MayAsk c.args.sender) (get_or-map command_in c.args.commands.now place command (command_in command) c.loop-command-test.true) (all place (command_in command) within) in
      let here : MayAsk c.args.sender (command_in command) = subst (λ x. MayAsk c.args.sender (command_in x)) (sym c.command-item.is) there in
      let not : c.may_ask.result ≡ false = search rules in
      absurd (true≢false (sym (c.may_ask.ensures.1 here) ∙ not)),
)

pub returns : goal.returns
returns c =
    let all = subst (All (λ command. MayAsk c.args.sender (command_in command))) (take_all c.loop-command.command-index c.args.commands.now (omega (arith, c.loop-command-test.false))) c.loop-command.invariant in
    (λ told. All-map (MayAsk c.args.sender) command_in c.args.commands.now all, λ held. refl)

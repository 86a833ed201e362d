use Rattle.std.proofs.Common.{drop, arith}
use Rattle.std.proofs.lemmas.List.{take_all, length-drop}
use Rattle.session_resume.proofs.resume.following.Goals as goal

pub returns : goal.returns
returns c = take_all _ (drop c.args.place c.args.bytes.now) (omega (arith, length-drop c.args.place c.args.bytes.now))

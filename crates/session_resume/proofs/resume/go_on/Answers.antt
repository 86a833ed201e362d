use Rattle.std.proofs.Common.{◌∙◌, ◌+◌, ap, sym, drop, length, IsTrue, arith}
use Rattle.std.proofs.lemmas.Bool.{false≢true}
use Rattle.session_resume.proofs.After.{is_cut, is_nothing, is_commands, is_no_file, after_magic, magic_inside, no_file_quiet}
use Rattle.session_resume.proofs.resume.go_on.Goals as goal

pub returns-then-is_cut-clause-ends : goal.returns-then-is_cut-clause-ends
returns-then-is_cut-clause-ends g c =
    let cut = (rw c.following-rest.ensures at c.is_cut.ensures).0 c.if-is_cut.true in
    is_cut c.args.part.origin c.args.part.market (IsTrue c.args.more) c.args.part.place (drop c.args.part.place c.args.bytes.now) cut.0 cut.1 (g.K.Sink.held c.args.out.now)

pub returns-then-is_none-clause-ends : goal.returns-then-is_none-clause-ends
returns-then-is_none-clause-ends g c =
    let none = (rw c.following-rest.ensures at c.is_none.ensures).0 c.if-is_none.true in
    let cut = (rw c.following-rest.ensures at c.is_cut.ensures).1 in
    is_nothing c.args.part.origin c.args.part.market (IsTrue c.args.more) c.args.part.place (drop c.args.part.place c.args.bytes.now) none (λ more. false≢true (sym c.if-is_cut.false ∙ cut (omega (arith, ap length none), more))) (g.K.Sink.held c.args.out.now)

pub serve_all-requires-clause-inside : goal.serve_all-requires-clause-inside
serve_all-requires-clause-inside g c =
    let begins = (rw c.following-rest.ensures at c.is_command_file_of.ensures).0 c.if-is_command_file_of.true in
    magic_inside c.version.result c.args.bytes.now begins.0 c.args.part.place begins.1 c.requires.inside

pub returns-then-is_command_file_of-clause-ends : goal.returns-then-is_command_file_of-clause-ends
returns-then-is_command_file_of-clause-ends g c =
    let begins = (rw (c.following-rest.ensures, c.version.ensures.value) at c.is_command_file_of.ensures).0 c.if-is_command_file_of.true in
    is_commands c.args.part.origin c.args.part.market (IsTrue c.args.more) c.args.part.place (drop c.args.part.place c.args.bytes.now) (drop (c.args.part.place + 8) c.args.bytes.now)
    (after_magic c.args.part.market.version c.args.bytes.now begins.0 c.args.part.place begins.1) c.serve_all.result (g.K.Sink.held c.args.out.now) (g.K.Sink.held c.serve_all.new.out) (rw c.over.ensures at c.serve_all.ensures.ends)

pub returns-clause-ends : goal.returns-clause-ends
returns-clause-ends g c =
    let cut = (rw c.following-rest.ensures at c.is_cut.ensures).1 in
    let none = (rw c.following-rest.ensures at c.is_none.ensures).1 in
    let file = (rw (c.following-rest.ensures, c.version.ensures.value) at c.is_command_file_of.ensures).1 in
    is_no_file c.args.part.origin c.args.part.market (IsTrue c.args.more) c.args.part.place (drop c.args.part.place c.args.bytes.now) c.no_file.result
    (λ is. false≢true (sym c.if-is_cut.false ∙ cut is), λ is. false≢true (sym c.if-is_none.false ∙ none is), λ body is. false≢true (sym c.if-is_command_file_of.false ∙ file (body, is))) (rw c.following-rest.ensures at c.no_file.ensures.ends) c.no_file.ensures.how (g.K.Sink.held c.args.out.now)

pub returns-clause-cause : goal.returns-clause-cause
returns-clause-cause g c = no_file_quiet c.no_file.result c.args.part.place (g.K.Sink.faults c.args.out.now) c.no_file.ensures.how

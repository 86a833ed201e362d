use Rattle.std.proofs.Common.{◌++◌, ap, sym, ◌∙◌}
use Rattle.wire_records.specs.Records.{encoding}
use Rattle.wire_records.specs.Views.{command_in}
use Rattle.wire_records.specs.CommandRecords.{tag_of}
use Rattle.wire_records.specs.Bodies.{record_encoding}
use Rattle.wire_records.proofs.FieldForms.{body_is_plain, command_fits}
use Rattle.wire_records.proofs.write.write_command.Goals as goal

pub returns-clause-written : goal.returns-clause-written
returns-clause-written c =
    let command = command_in c.args.command.now in
    c.put_command.ensures.written ∙ ap (λ xs. xs ++ encoding (record_encoding command)) c.reserve.ensures.items
    ∙ ap (λ body. c.args.out.now.items ++ encoding (record { tag = tag_of command; body = body })) (sym (body_is_plain command))

pub returns-clause-fits : goal.returns-clause-fits
returns-clause-fits c = command_fits (command_in c.args.command.now) c.put_command.ensures.fits

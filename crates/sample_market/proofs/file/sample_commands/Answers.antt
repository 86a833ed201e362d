use Rattle.std.proofs.Common.{◌++◌, ap, ◌∙◌}
use Rattle.wire_records.specs.Formats.{command_magic_of}
use Rattle.wire_records.specs.declared.version.Version.TheVariants.{One}
use Rattle.sample_market.proofs.Written.{file_written}
use Rattle.sample_market.proofs.file.sample_commands.Goals as goal

pub returns : goal.returns
returns c =
    let begins = c.in_ok-extend_from_slice.ensures.items ∙ ap (λ xs. xs ++ command_magic_of One) c.in_ok-file.ensures.items in
    file_written c.extend_from_slice.new.self.items c.put_assets.new.file.items c.put_accounts.new.file.items c.put_deposits.new.file.items c.put_orders.new.file.items c.put_batches.new.file.items c.args.number c.args.orders begins
    c.in_ok-put_assets.ensures c.in_ok-put_accounts.ensures c.in_ok-put_deposits.ensures c.in_ok-put_orders.ensures c.in_ok-put_batches.ensures

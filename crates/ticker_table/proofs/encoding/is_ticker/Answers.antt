use Rattle.std.proofs.Common.{◌≡◌, ◌-◌, List, ℕ, take, drop, All, IsTrue, subst, arith}
use Rattle.std.proofs.lemmas.List.{take_all, length-drop}
use Rattle.ticker_table.proofs.Names.{IsTicker-from_parts, parts_from_IsTicker}
use Rattle.ticker_table.proofs.encoding.is_ticker.Goals as goal

pub returns-then-name-gt0 : goal.returns-then-name-gt0
returns-then-name-gt0 c =
    let bytes = c.args.bytes.now in
    let name = c.name_length-name.result in
    let found = c.name_length-name.ensures in
    let rest : take (8 - name) (drop name bytes) ≡ drop name bytes = take_all (8 - name) (drop name bytes) (omega (arith, length-drop name bytes)) in
    let spaces = subst (λ (list : List ℕ). (IsTrue c.are_spaces.result → All (λ byte. byte ≡ 32) list) × (All (λ byte. byte ≡ 32) list → IsTrue c.are_spaces.result)) rest c.are_spaces.ensures in
    (λ all. IsTicker-from_parts bytes name (omega arith) c.if-name-gt0.true found.within found.name (spaces.0 all), λ ticker. spaces.1 (parts_from_IsTicker bytes name found.within found.name found.end ticker).1)

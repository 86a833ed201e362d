-- What the program's call says of two calls of `host` on the same bytes: one status and one output, and what was written before a failure.
use Rattle.std.proofs.Common.{◌≡◌, inl, inr, ℕ, List, Option, Some, Result, IfSome, sym, ap, subst, ◌∙◌}
use Rattle.std.specs.Prelude.{⊤}
use Rattle.flow_io.specs.Changes.{Change}
use Rattle.disk_edge.specs.Disks.{DiskState}
use Rattle.journal_keeping.specs.Outputs.{Output}
use Rattle.desk_opening.specs.Openings.{IsNoBook}
use Rattle.desk_keeping.specs.Hosting.{ComesTo, IsOfFile}
use Rattle.desk_keeping.specs.declared.fault.HostFault.{HostFault}
use Rattle.exit_status.specs.declared.status.Status.{Status}
use Rattle.kept_exchange.specs.Hosts.{host_status, HostsLines}
use Rattle.host_laws.specs.Laws.{IsFailure, HasHosted, OneHostedOutput, HostedBegunIsAPrefix, HasFailed, OneHostStatus, HostBegunIsAPrefix}

failed : (limit : ℕ) (ends : Status) (result : Result ⊤ HostFault) → ends ≡ host_status limit result → IsFailure result → HasFailed ends
failed limit ends result is (inl read) = inl (is ∙ ap (host_status limit) read)
failed limit ends result is (inr (inl write)) = inr (inl (is ∙ ap (host_status limit) write))
failed limit ends result is (inr (inr (inl disk))) = inr (inr (inl (is ∙ ap (host_status limit) disk)))
failed limit ends result is (inr (inr (inr memory))) = inr (inr (inr (is ∙ ap (host_status limit) memory)))

module _ (limit : ℕ) (held bytes : List ℕ) (start end : DiskState) (source : Change) (out later : Output) (notes : Change) (ends : Status) (told : start.content ≡ Some held) (has : source.before ≡ Some bytes) where
  hosted : (h : HostsLines limit ends start end source out later notes) → HasHosted limit held bytes source.after start end out later h.result
  hosted h = record {
    told = told;
    comes =
        subst (λ (c : Option (List ℕ)). ComesTo limit held c source.after start end out later h.result) has
        (subst (λ (c : Option (List ℕ)). IfSome c (λ bytes. ComesTo limit bytes source.before source.after start end out later h.result)) told h.comes);
    refuses = λ none.
        let refused = subst (λ (c : Option (List ℕ)). IfSome c (λ bytes. IsNoBook bytes → IsOfFile h.result × (source.after ≡ source.before) × (later ≡ out))) told h.refuses none in
        (refused.0, refused.2);
  }

pub one_host_status : (start end other last : DiskState) → OneHostedOutput start end other last → OneHostStatus start end other last
one_host_status start end other last one limit held bytes a b source input out later before after notes lines are fine well =
    let h = are.one in
    let k = are.second in
    let (same, gains, keeps) = one limit held bytes source.after input.after out later before after h.result k.result (λ fails. fine (failed limit a h.result h.ends_so fails)) (λ fails. well (failed limit b k.result k.ends_so fails))
    (hosted limit held bytes start end source out later notes a are.told are.has h) (hosted limit held bytes other last input before after lines b are.also are.too k) in
    (h.ends_so ∙ ap (host_status limit) same ∙ sym k.ends_so, gains, keeps)

pub host_begun_is_a_prefix : (start end other last : DiskState) → HostedBegunIsAPrefix start end other last → HostBegunIsAPrefix start end other last
host_begun_is_a_prefix start end other last one limit held bytes a b source input out later before after notes lines are fine =
    one limit held bytes source.after input.after out later before after are.one.result are.second.result (λ fails. fine (failed limit a are.one.result are.one.ends_so fails))
    (hosted limit held bytes start end source out later notes a are.told are.has are.one) (hosted limit held bytes other last input before after lines b are.also are.too are.second)

-- A table that is copied ticker by ticker.
use Rattle.std.proofs.Common.{◌≡◌, ◌+◌, ℕ, List, [], ◌∷◌, ◌++◌, Some, length, take, slice_get, sym, ap, ◌∙◌}
use Rattle.std.proofs.lemmas.List.{take_more, length_push}
use Rattle.std.proofs.lemmas.Option.{slice_get_within, get_or_from_slice_get}

-- one ticker more
pub one_more : (known tickers now : List (List ℕ)) (ticker : List ℕ) → tickers ≡ take (length tickers) known → Some ticker ≡ slice_get known (length tickers) → now ≡ tickers ++ ticker ∷ [] → now ≡ take (length now) known
one_more known tickers now ticker first at added =
    let place = length tickers in
    let next = take_more known place [] (slice_get_within known place ticker (sym at)) ∙ ap (λ t. take place known ++ t ∷ []) (get_or_from_slice_get known place ticker [] (sym at)) in
    let size : length now ≡ place + 1 = ap length added ∙ length_push tickers ticker in
    added ∙ ap (λ ts. ts ++ ticker ∷ []) first ∙ sym next ∙ ap (λ n. take n known) (sym size)

-- The points that values are, and the orders of the ladder that an object asks for.
use Rattle.std.proofs.Common.{◌≡◌, ℕ, ℤ, pos, ◌+◌, ◌<◌, ◌≤◌, ◌^◌, Bool, true, false, List, [], ◌∷◌, ◌++◌, length, length-append, drop, get_or, map, append_assoc, append-nil, Option, Some, None, Result, Ok, Err, IfOk, option_map, is_some, true≢false, inr, refl, sym, ap, subst, ◌∙◌, arith, rules, ltb-true}
use Rattle.std.specs.Prelude.{option_and_then, unwrap_or, codes, nat_lt, if◌then◌else◌, IsUtf8}
use Rattle.std.proofs.lemmas.Bool.{lt-ltb}
use Rattle.std.proofs.lemmas.List.{drop_more, drop_all}
use Rattle.std.proofs.lemmas.List.Elements.{All-from_recursion, recursion_from_All}
use Rattle.weight_rows.specs.declared.entries.Entry.{Entry}
use Rattle.serde_json.specs.Data.{Data, Items, no_items, item}
use Rattle.serde_json.specs.Find.{get, as_array}
use Rattle.serde_json.specs.Events.{items_len}
use Rattle.serde_json.specs.View.{view, items_view}
use Rattle.serde_json.specs.declared.value.Value.{Value as json_value}
use Rattle.wire_records.specs.Commands.{Request, Command, Place}
use Rattle.wire_records.specs.declared.command.Command as owned
use Rattle.wire_records.specs.Views.{command_in}
use Rattle.wire_records.specs.declared.version.Version.{Version}
use Rattle.curve_ladder.specs.declared.points.Point.{Point}
use Rattle.curve_ladder.specs.Ladders.{Ladder, IsLadder}
use Rattle.curve_ladder.specs.declared.segment.Segment.{Segment}
use Rattle.curve_ladder.specs.Segments.{segments_of, request_of, requests_of}
use Rattle.curve_ladder.proofs.Told.{ask_together}
use Rattle.order_text.specs.Laws.{LadderAsksTogether}
use Rattle.serde_json.specs.Read.{read}
use Rattle.order_text.specs.declared.line.LineRead.{LineRead}
use Rattle.order_text.specs.declared.line.LineRead.TheVariants as line_is
use Rattle.order_text.specs.Answers.{IsAskedAs, IsLineRead, IsShort}
use Rattle.order_text.specs.declared.line.LineFault.{LineFault}
use Rattle.order_text.specs.declared.line.LineFault.TheVariants.{NoCommand, Memory}
use Rattle.order_text.specs.Lines.{IsBlank, Leave, whole_of, signed_of, IsPoint, ArePoints, Small, Weights, Points, HasAt, ladder_members, AsksLadder, Asked, Alone, OfLadder, ObjectAsks}
use Rattle.order_text.specs.Private.{text_at, number_at, items_at, in_32_bits, rate_of, point_in, point_of, put_points, word_of, HasLadder, IsLaddered, AnswersObject, AddsSome, AreAfter}
use Rattle.order_text.proofs.AskedFor.{word_asked, text_of, text_where}

-- ---- one point
nat_is : (a b : ℕ) → Some a ≡ Some b → a ≡ b
nat_is a b is = ap (λ o. unwrap_or o 0) is

point_is : (a b : Point) → Some a ≡ Some b → a ≡ b
point_is a b is = ap (λ o. unwrap_or o (record { price = pos 0; rate = 0 })) is

-- the rate that a value is, if it is one
rate_means : (d : Data) (n : ℕ) → rate_of d ≡ Some n → (whole_of d ≡ Some n) × (n < 2 ^ 32)
rate_means d n e = by (whole_of d) e
  where
    in_by : (m : ℕ) (b : Bool) → nat_lt m (2 ^ 32) ≡ b → (if b then Some m else None) ≡ Some n → (Some m ≡ Some n) × (n < 2 ^ 32)
    in_by m true small e = (e, subst (λ (x : ℕ). x < 2 ^ 32) (nat_is m n e) (ltb-true m (2 ^ 32) small))
    in_by m false small e = absurd (cc)

    by : (o : Option ℕ) → option_and_then in_32_bits o ≡ Some n → (o ≡ Some n) × (n < 2 ^ 32)
    by None e = absurd (cc)
    by (Some m) e = in_by m (nat_lt m (2 ^ 32)) refl e

means_rate : (d : Data) (n : ℕ) → whole_of d ≡ Some n → n < 2 ^ 32 → rate_of d ≡ Some n
means_rate d n e small = ap (option_and_then in_32_bits) e ∙ rw (lt-ltb n (2 ^ 32) small) refl

-- the point that a value is, if it is one
point_means : (d : Data) (p : Point) → point_of d ≡ Some p → IsPoint d p
point_means d p e = by (as_array d) refl e
  where
    rated : (price rate : Data) (z : ℤ) (o : Option ℕ) → as_array d ≡ Some (item price (item rate no_items)) → signed_of price ≡ Some z → rate_of rate ≡ o → option_map (λ r. record { price = z; rate = r }) o ≡ Some p → IsPoint d p
    rated price rate z None two priced is e = absurd (cc)
    rated price rate z (Some r) two priced is e =
        let means = rate_means rate r is in
        subst (IsPoint d) (point_is (record { price = z; rate = r }) p e) (record { price = price; rate = rate; two = two; price_is = priced; rate_is = means.0; small = means.1 })

    priced : (price rate : Data) (o : Option ℤ) → as_array d ≡ Some (item price (item rate no_items)) → signed_of price ≡ o → option_and_then (λ z. option_map (λ r. record { price = z; rate = r }) (rate_of rate)) o ≡ Some p → IsPoint d p
    priced price rate None two is e = absurd (cc)
    priced price rate (Some z) two is e = rated price rate z (rate_of rate) two is refl e

    by : (o : Option Items) → as_array d ≡ o → option_and_then point_in o ≡ Some p → IsPoint d p
    by None two e = absurd (cc)
    by (Some no_items) two e = absurd (cc)
    by (Some (item price no_items)) two e = absurd (cc)
    by (Some (item price (item rate no_items))) two e = priced price rate (signed_of price) two refl e
    by (Some (item price (item rate (item more items)))) two e = absurd (cc)

means_point : (d : Data) (p : Point) → IsPoint d p → point_of d ≡ Some p
means_point d p is = rw (is.two, is.price_is, means_rate is.rate p.rate is.rate_is is.small) refl

-- ---- points
made : (items : Items) (old found : List Point) → put_points items old ≡ Some found → (new : List Point) × (found ≡ old ++ new) × ArePoints items new
made no_items old found e = ([], points_are found (old ++ []) (sym e ∙ ap Some (sym (append-nil old))), tt)
  where
    points_are : (x y : List Point) → Some x ≡ Some y → x ≡ y
    points_are x y is = ap (λ o. unwrap_or o []) is
made (item d items) old found e = by (point_of d) (λ p. made items (old ++ p ∷ []) found) refl e
  where
    by : (o : Option Point) → ((p : Point) → put_points items (old ++ p ∷ []) ≡ Some found → (new : List Point) × (found ≡ (old ++ p ∷ []) ++ new) × ArePoints items new) → point_of d ≡ o
        → option_and_then (λ p. put_points items (old ++ p ∷ [])) o ≡ Some found → (new : List Point) × (found ≡ old ++ new) × ArePoints (item d items) new
    by None again is e = absurd (cc)
    by (Some p) again is e =
        let rest = again p e in
        (p ∷ rest.0, rest.1 ∙ append_assoc old (p ∷ []) rest.0, (point_means d p is, rest.2))

kept : (items : Items) (old points : List Point) → ArePoints items points → put_points items old ≡ Some (old ++ points)
kept no_items old [] are = ap Some (sym (append-nil old))
kept no_items old (p ∷ points) are = absurd are
kept (item d items) old [] are = absurd are
kept (item d items) old (p ∷ points) are =
    rw (means_point d p are.0) (kept items (old ++ p ∷ []) points are.1 ∙ ap Some (append_assoc old (p ∷ []) points))

-- the points that are made are those that the values are
pub points_made : (items : Items) (points : List Point) → put_points items [] ≡ Some points → ArePoints items points
points_made items points is = let all = made items [] points is in subst (ArePoints items) (sym all.1) all.2

-- the points that the values are, are those that are made
pub made_where : (items : Items) (points : List Point) → ArePoints items points → put_points items [] ≡ Some points
made_where items points are = kept items [] points are

-- there are as many points as values
pub as_many : (items : Items) (points : List Point) → ArePoints items points → items_len items ≡ length points
as_many no_items [] are = refl
as_many no_items (p ∷ points) are = absurd are
as_many (item d items) [] are = absurd are
as_many (item d items) (p ∷ points) are = omega (arith, as_many items points are.1)

pub len_of_view : (values : List json_value) → items_len (items_view values) ≡ length values
len_of_view [] = refl
len_of_view (v ∷ values) = omega (arith, len_of_view values)

-- too many points are no ladder's
pub too_many : (values : List json_value) → 33 < length values → (l : Ladder) → IsLadder l → ArePoints (items_view values) l.points → ⊥
too_many values many l lawful are = absurd (omega (arith, many, len_of_view values, as_many (items_view values) l.points are, lawful.count.1))

-- The values before a place were put.
pub record HasPut (values : List json_value) (place : ℕ) (points : List Point) (room : ℕ) : Type 0 where
  pub put : put_points (items_view values) [] ≡ put_points (items_view (drop place values)) points
  pub count : length points ≡ place
  pub fits : length values ≤ room

-- before the first value none is put
pub none_put : (values : List json_value) (points : List Point) (room : ℕ) → points ≡ [] → length values ≤ room → HasPut values 0 points room
none_put values points room none fits = record { put = rw none refl; count = rw none refl; fits = fits }

module _ (values : List json_value) (place : ℕ) (points : List Point) (room : ℕ) (value : json_value) (within : place < length values) (so : HasPut values place points room) where
  -- one more value is put
  pub one_put : (p : Point) → Some p ≡ point_of (view (get_or values place value)) → HasPut values (place + 1) (points ++ p ∷ []) room
  one_put p is = record {
    put = so.put ∙ rw (drop_more values place value within, sym is) refl;
    count = omega (arith, so.count, length-append points (p ∷ []));
    fits = so.fits;
  }

  -- a value that is no point
  pub none_more : None ≡ point_of (view (get_or values place value)) → put_points (items_view values) [] ≡ None
  none_more is = so.put ∙ rw (drop_more values place value within, sym is) refl

-- all values are put
pub all_put : (values : List json_value) (place : ℕ) (points : List Point) (room : ℕ) → length values ≤ place → HasPut values place points room → ArePoints (items_view values) points
all_put values place points room past so = points_made (items_view values) points (so.put ∙ rw (drop_all place values past) refl)

-- an array of another count is no point
pub not_two : (d : Data) (values : List json_value) → Some (items_view values) ≡ as_array d → (length values ≡ 2 → ⊥) → None ≡ point_of d
not_two d values is other = rw (sym is) (by values other)
  where
    by : (values : List json_value) → (length values ≡ 2 → ⊥) → None ≡ point_in (items_view values)
    by [] other = refl
    by (x ∷ []) other = refl
    by (x ∷ y ∷ []) other = absurd (other refl)
    by (x ∷ y ∷ z ∷ values) other = refl

-- if no points are made, no ladder has them
pub none_made : (items : Items) → put_points items [] ≡ None → (l : Ladder) → IsLadder l → ArePoints items l.points → ⊥
none_made items none l lawful are = true≢false (ap is_some (sym (made_where items l.points are) ∙ none))

-- ladders of the same points and turns
pub ladders_are : (l k : Ladder) → l.points ≡ k.points → l.turns ≡ k.turns → l ≡ k
ladders_are l k points turns = ap (λ ps. record { points = ps; turns = l.turns }) points ∙ ap (λ t. record { points = k.points; turns = t }) turns

-- the points at a key, as an equation
pub gives_points : (tickers : List (List ℕ)) (d : Data) (key : List ℕ) (points : List Point) → HasAt tickers d key (Points points) → option_and_then (λ items. put_points items []) (items_at key d) ≡ Some points
gives_points tickers d key points has = rw (has.1, has.2.1) (made_where has.2.0 points has.2.2)

pub gives_small : (tickers : List (List ℕ)) (d : Data) (key : List ℕ) (n : ℕ) → HasAt tickers d key (Small n) → number_at key d ≡ Some n
gives_small tickers d key n has = rw has.1 has.2.0

module _ (tickers : List (List ℕ)) (d : Data) where
  -- the answer of what makes points, for the array at a key
  pub points_at : (key : List ℕ) (items : Items) (result : Result (List Point) LineFault) → items_at key d ≡ Some items → IfOk result (ArePoints items) → IfOk result (λ points. HasAt tickers d key (Points points))
  points_at key items (Ok points) there are = by (get key d) refl there
    where
      by : (o : Option Data) → get key d ≡ o → option_and_then as_array o ≡ Some items → HasAt tickers d key (Points points)
      by None at there = absurd (cc)
      by (Some value) at there = (value, at, (items, there, are))
  points_at key items (Err fault) there are = tt

  pub no_points_at : (key : List ℕ) (items : Items) → items_at key d ≡ Some items → ((l : Ladder) → IsLadder l → ArePoints items l.points → ⊥) → (l : Ladder) → IsLadder l → HasAt tickers d key (Points l.points) → ⊥
  no_points_at key items there none l lawful has =
      let own : items_at key d ≡ Some has.2.0 = rw has.1 has.2.1 in
      let same : has.2.0 ≡ items = items_are has.2.0 items (sym own ∙ there) in
      none l lawful (subst (λ (xs : Items). ArePoints xs l.points) same has.2.2)
    where
      items_are : (x y : Items) → Some x ≡ Some y → x ≡ y
      items_are x y is = ap (λ o. unwrap_or o no_items) is

  -- ---- the object of a ladder
  -- an object that asks for a ladder's orders has its members
  pub has_ladder : (commands : List Command) → (asks : AsksLadder tickers d commands) → HasLadder tickers d asks.ladder asks.account asks.row
  has_ladder commands asks = (recursion_from_All (λ m. HasAt tickers d m.0 m.1) (ladder_members asks.ladder asks.account asks.row) asks.members.0).1

  pub ladder_asked : (commands : List Command) → AsksLadder tickers d commands → text_at (codes "do") d ≡ Some (codes "ladder")
  ladder_asked commands asks =
      text_of tickers d (codes "do") (codes "ladder") (recursion_from_All (λ m. HasAt tickers d m.0 m.1) (ladder_members asks.ladder asks.account asks.row) asks.members.0).0

  -- an object with a ladder's members asks for its orders
  pub asks_ladder : (commands : List owned.Command) → text_at (codes "do") d ≡ Some (codes "ladder") → IsLaddered tickers d (Ok commands) → AsksLadder tickers d (map command_in commands)
  asks_ladder commands word is = record {
    ladder = is.0.0;
    account = is.0.1;
    row = is.0.2;
    members = (All-from_recursion (λ m. HasAt tickers d m.0 m.1) (ladder_members is.0.0 is.0.1 is.0.2) (text_where tickers d (codes "do") (codes "ladder") word, is.0.3), is.0.4);
    lawful = is.0.5;
    commands_are = is.0.6;
  }

  -- no command has the word of a ladder
  pub no_command_word : (command : Command) → word_of command ≡ codes "ladder" → ⊥
  no_command_word = search rules

  pub not_alone : (version : Version) (command : Command) → text_at (codes "do") d ≡ Some (codes "ladder") → ObjectAsks version tickers d (Alone command) → ⊥
  not_alone version command word asks = no_command_word command (ap (λ o. unwrap_or o []) (sym (word_asked version tickers d command asks) ∙ word))

  -- an object without a weight vector asks for no ladder's orders
  pub ladder_failed : (fault : LineFault) → (fault ≡ NoCommand → (row : List Entry) → HasAt tickers d (codes "weights") (Weights row) → ⊥) → IsLaddered tickers d (Err fault)
  ladder_failed NoCommand none = λ l account row has keys lawful. none refl row has.1.1.1.0
  ladder_failed Memory none = tt

  -- the ladder of the points and turns that are there
  pub lawful_told : (l : Ladder) (points : List Point) (turns : ℕ) → HasAt tickers d (codes "points") (Points l.points) → HasAt tickers d (codes "turns") (Small l.turns)
      → HasAt [] d (codes "points") (Points points) → HasAt [] d (codes "turns") (Small turns) → IsLadder l → IsLadder (record { points = points; turns = turns })
  lawful_told l points turns own own_turns there there_turns lawful =
      let same : l.points ≡ points = points_are l.points points (sym (gives_points tickers d (codes "points") l.points own) ∙ gives_points [] d (codes "points") points there) in
      let so : l.turns ≡ turns = nat_is l.turns turns (sym (gives_small tickers d (codes "turns") l.turns own_turns) ∙ gives_small [] d (codes "turns") turns there_turns) in
      subst IsLadder (ladders_are l (record { points = points; turns = turns }) same so) lawful
    where
      points_are : (a b : List Point) → Some a ≡ Some b → a ≡ b
      points_are a b is = ap (λ o. unwrap_or o []) is

  -- an object with the word of a ladder that asks for none asks for nothing
  pub no_ladder : (version : Version) → text_at (codes "do") d ≡ Some (codes "ladder") → IsLaddered tickers d (Err NoCommand) → (asked : Asked) → ObjectAsks version tickers d asked → ⊥
  no_ladder version word none (Alone command) asks = not_alone version command word asks
  no_ladder version word none (OfLadder commands) asks = none asks.ladder asks.account asks.row (has_ladder commands asks) asks.members.1 asks.lawful

  -- a fault is the answer for an object with the word `ladder`
  pub ladder_refused : (version : Version) → text_at (codes "do") d ≡ Some (codes "ladder") → (fault : LineFault) → IsLaddered tickers d (Err fault) → AnswersObject version tickers d (Err fault)
  ladder_refused version word NoCommand none = no_ladder version word none
  ladder_refused version word Memory none = tt

-- a ladder's commands leave the tickers as they are
leaves_none : (version : Version) (tickers : List (List ℕ)) (l : Ladder) (account : ℕ) (row : List Entry) (segments : List Segment) → Leave version tickers (map (Place None) (map (request_of account row) segments)) tickers
leaves_none version tickers l account row [] = refl
leaves_none version tickers l account row (s ∷ segments) = (tickers, inr ((λ ticker adds. absurd (let same = adds.0 in cc)), refl), leaves_none version tickers l account row segments)

-- the answer to a line is that for its value
pub line_asked : (version : Version) (tickers : List (List ℕ)) (line : List ℕ) (d : Data) (answer : Result LineRead LineFault) → (¬ IsBlank line) → IsUtf8 line → read line ≡ Some d → AnswersObject version tickers d answer → IsAskedAs version tickers line answer
line_asked version tickers line d (Ok line_is.Blank) written utf8 reads asked = absurd asked
line_asked version tickers line d (Ok (line_is.Asks command)) written utf8 reads asked = record { written = written; utf8 = utf8; value = d; reads = reads; asks = asked.0 }
line_asked version tickers line d (Ok (line_is.Many commands)) written utf8 reads asked = record { written = written; utf8 = utf8; value = d; reads = reads; asks = asked.0 }
line_asked version tickers line d (Err NoCommand) written utf8 reads none = record {
  written = written;
  no_command = λ asked asks.
      let both : Some asks.value ≡ Some d = sym asks.reads ∙ reads in
      let same : asks.value ≡ d = cc in
      none asked (subst (λ (v : Data). ObjectAsks version tickers v asked) same asks.asks);
}
line_asked version tickers line d (Err Memory) written utf8 reads asked = written

-- the tickers after a line that was asked
pub line_read : (version : Version) (tickers after : List (List ℕ)) (line : List ℕ) (lr : LineRead) → IsAskedAs version tickers line (Ok lr) → AreAfter version tickers lr after → IsLineRead version tickers line after (Ok lr)
line_read version tickers after line line_is.Blank asked leaves = (asked, leaves)
line_read version tickers after line (line_is.Asks command) asked leaves = record { asks = asked; leaves = (after, leaves, refl) }
line_read version tickers after line (line_is.Many commands) asked leaves = record {
  asks = asked;
  leaves = rw (leaves, asked.asks.commands_are) (leaves_none version tickers asked.asks.ladder asked.asks.account asked.asks.row (segments_of asked.asks.ladder));
}

-- a ticker that a line asks for wasn't added
pub line_unadded : (version : Version) (tickers after : List (List ℕ)) (line : List ℕ) (lr : LineRead) (fault : LineFault) → IsAskedAs version tickers line (Ok lr) → AddsSome lr → (¬ (fault ≡ NoCommand)) → after ≡ tickers → IsLineRead version tickers line after (Err fault)
line_unadded version tickers after line line_is.Blank fault asked some other same = absurd some
line_unadded version tickers after line (line_is.Many commands) fault asked some other same = absurd some
line_unadded version tickers after line (line_is.Asks command) NoCommand asked some other same = absurd (other refl)
line_unadded version tickers after line (line_is.Asks command) Memory asked some other same = (asked.written, same)

pub line_is_short : (version : Version) (tickers : List (List ℕ)) (d : Data) (answer : Result LineRead LineFault) → AnswersObject version tickers d answer → IfOk answer IsShort
line_is_short version tickers d (Ok line_is.Blank) asked = absurd asked
line_is_short version tickers d (Ok (line_is.Asks command)) asked = asked.1
line_is_short version tickers d (Ok (line_is.Many commands)) asked = asked.1
line_is_short version tickers d (Err fault) asked = tt

-- commands that place orders determine their requests
requests_are : (a b : List Request) → map (Place None) a ≡ map (Place None) b → a ≡ b
requests_are [] [] same = refl
requests_are [] (y ∷ b) same = absurd (cc)
requests_are (x ∷ a) [] same = absurd (cc)
requests_are (x ∷ a) (y ∷ b) same =
    let first : x ≡ y = cc in
    let rest : map (Place None) a ≡ map (Place None) b = cc in
    rw (first, requests_are a b rest) refl

pub ladder_asks_together : LadderAsksTogether
ladder_asks_together tickers d requests asks =
    rw (requests_are requests (requests_of asks.ladder asks.account asks.row) asks.commands_are) (ask_together asks.ladder asks.lawful asks.account asks.row)

-- How many parts a value has and how many bytes its text: a line asks for no more commands than it has bytes.
use Rattle.std.proofs.Common.{◌≡◌, ℕ, zero, suc, ◌+◌, ◌≤◌, Bool, true, false, List, [], ◌∷◌, length, map, codes, Option, Some, None, option_map, option_and_then, Ordering, Less, Equal, Greater, refl, ap, subst, arith}
use Rattle.std.specs.Prelude.{⊤}
use Rattle.std.specs.Ordering.{nat_cmp, match_ordering}
use Rattle.std.proofs.lemmas.List.{length-map}
use Rattle.std.specs.List.{filter}
use Rattle.std.proofs.lemmas.List.Elements.{All-nil}
use Rattle.std.proofs.lemmas.List.Sums.{length-filter, count_by-le-length}
use Rattle.std.specs.Cmp.Lexicographic.{slice_cmp}
use Rattle.json.specs.Token.{Token}
use Rattle.json.specs.Lex.{Lexeme, token, comma, colon, Mode, between, in_word, in_string, in_escape, Class, quote, backslash, operator, space, other, class, lex_byte, lex, Place, fresh, after_value, after_comma, after_key, begins_colon, if_allowed, may_begin, may_close, place_token, punctuate, tokens}
use Rattle.json.specs.Json as json
use Rattle.serde_json.specs.Data.{Data, null, boolean, number, string, array, object, Items, no_items, item, Members, no_members, member, put}
use Rattle.serde_json.specs.Read.{number_of, of_json, of_items, of_members, max_depth, read}
use Rattle.serde_json.specs.Find.{get, get_member, as_array}
use Rattle.wire_records.specs.Commands as asked
use Rattle.curve_ladder.specs.declared.points.Point.{Point}
use Rattle.curve_ladder.specs.Ladders.{neighbours}
use Rattle.curve_ladder.specs.Segments.{is_drop, segment_between, segments_of, request_of}
use Rattle.order_text.specs.Laws.{NoMoreThanBytes}
use Rattle.order_text.specs.Lines.{ArePoints, IsBlank, Alone, OfLadder, AsksLadder}
use Rattle.order_text.proofs.Ladders.{has_ladder}

-- ---- tokens

-- a byte begins at most one lexeme
byte_few : (m : Mode) (c : Class) (x : ℕ) (xs : List ℕ) (n : ℕ) (k : Mode → List Lexeme) → ((next : Mode) → length (k next) ≤ n) → length (lex_byte m c x xs k) ≤ suc n
byte_few between quote x xs n k few = omega (arith, few in_string)
byte_few between backslash x xs n k few = omega (arith, few in_word)
byte_few between operator x xs n k few = omega (arith, few between)
byte_few between space x xs n k few = omega (arith, few between)
byte_few between other x xs n k few = omega (arith, few in_word)
byte_few in_word quote x xs n k few = omega (arith, few in_word)
byte_few in_word backslash x xs n k few = omega (arith, few in_word)
byte_few in_word operator x xs n k few = omega (arith, few between)
byte_few in_word space x xs n k few = omega (arith, few between)
byte_few in_word other x xs n k few = omega (arith, few in_word)
byte_few in_string quote x xs n k few = omega (arith, few between)
byte_few in_string backslash x xs n k few = omega (arith, few in_escape)
byte_few in_string operator x xs n k few = omega (arith, few in_string)
byte_few in_string space x xs n k few = omega (arith, few in_string)
byte_few in_string other x xs n k few = omega (arith, few in_string)
byte_few in_escape c x xs n k few = omega (arith, few in_string)

lexemes_few : (m : Mode) (xs : List ℕ) → length (lex m xs) ≤ length xs
unfolding lex
lexemes_few m [] = omega arith
lexemes_few m (x ∷ xs) = byte_few m (class x) x xs (length xs) (λ next. lex next xs) (λ next. lexemes_few next xs)

allowed_few : (b : Bool) (t : Token) (next : Place) (n : ℕ) (k : Place → List Token) → ((p : Place) → length (k p) ≤ n) → length (if_allowed b t k next) ≤ suc n
allowed_few true t next n k few = omega (arith, few next)
allowed_few false t next n k few = omega arith

-- a lexeme gives at most one token
placed_few : (p : Place) (t : Token) (b : Bool) (n : ℕ) (k : Place → List Token) → ((next : Place) → length (k next) ≤ n) → length (place_token p t b k) ≤ suc n
placed_few p Token.begin_object b n k few = allowed_few (may_begin p) Token.begin_object fresh n k few
placed_few p Token.end_object b n k few = allowed_few (may_close p) Token.end_object after_value n k few
placed_few p Token.begin_array b n k few = allowed_few (may_begin p) Token.begin_array fresh n k few
placed_few p Token.end_array b n k few = allowed_few (may_close p) Token.end_array after_value n k few
placed_few p (Token.key s) b n k few = omega arith
placed_few p (Token.string s) true n k few = allowed_few (may_begin p) (Token.key s) after_key n k few
placed_few p (Token.string s) false n k few = allowed_few (may_begin p) (Token.string s) after_value n k few
placed_few p (Token.number s) b n k few = allowed_few (may_begin p) (Token.number s) after_value n k few
placed_few p (Token.boolean v) b n k few = allowed_few (may_begin p) (Token.boolean v) after_value n k few
placed_few p Token.null b n k few = allowed_few (may_begin p) Token.null after_value n k few
placed_few p Token.bad b n k few = omega arith

-- and one more says that the text ends too soon
tokens_few : (p : Place) (ls : List Lexeme) → length (punctuate p ls) ≤ suc (length ls)
unfolding punctuate
tokens_few fresh [] = omega arith
tokens_few after_value [] = omega arith
tokens_few after_comma [] = omega arith
tokens_few after_key [] = omega arith
tokens_few fresh (token t ∷ ls) = placed_few fresh t (begins_colon ls) (suc (length ls)) (λ next. punctuate next ls) (λ next. tokens_few next ls)
tokens_few after_value (token t ∷ ls) = placed_few after_value t (begins_colon ls) (suc (length ls)) (λ next. punctuate next ls) (λ next. tokens_few next ls)
tokens_few after_comma (token t ∷ ls) = placed_few after_comma t (begins_colon ls) (suc (length ls)) (λ next. punctuate next ls) (λ next. tokens_few next ls)
tokens_few after_key (token t ∷ ls) = placed_few after_key t (begins_colon ls) (suc (length ls)) (λ next. punctuate next ls) (λ next. tokens_few next ls)
tokens_few fresh (comma ∷ ls) = omega arith
tokens_few after_value (comma ∷ ls) = omega (arith, tokens_few after_comma ls)
tokens_few after_comma (comma ∷ ls) = omega arith
tokens_few after_key (comma ∷ ls) = omega arith
tokens_few fresh (colon ∷ ls) = omega arith
tokens_few after_value (colon ∷ ls) = omega arith
tokens_few after_comma (colon ∷ ls) = omega arith
tokens_few after_key (colon ∷ ls) = omega (arith, tokens_few fresh ls)

-- ---- values

-- how many parts a value has: itself, and those of the values in it
abbrev mutual
  parts : json.Json → ℕ
  parts json.null = 1
  parts (json.boolean b) = 1
  parts (json.number s) = 1
  parts (json.string s) = 1
  parts (json.array js) = suc (item_parts js)
  parts (json.object ms) = suc (member_parts ms)

  item_parts : json.Items → ℕ
  item_parts json.no_items = 0
  item_parts (json.item j js) = parts j + item_parts js

  member_parts : json.Members → ℕ
  member_parts json.no_members = 0
  member_parts (json.member k j ms) = parts j + member_parts ms

-- what was read, and what is left, are within a count of tokens
abbrev AreWithin : {A : Type 0} → (A → ℕ) → ℕ → Option (A × List Token) → Type 0
AreWithin f n None = ⊤
AreWithin f n (Some p) = f p.0 + length p.1 ≤ n

abbrev TakesAll : {A : Type 0} → (A → ℕ) → json.Parse A → Type 0
TakesAll f p = (ts : List Token) → AreWithin f (length ts) (p ts)

mapped : {A B : Type 0} (f : A → ℕ) (g : B → ℕ) (n m : ℕ) (h : A → B) → ((a : A) (left : ℕ) → f a + left ≤ n → g (h a) + left ≤ m) → (o : Option (A × List Token)) → AreWithin f n o → AreWithin g m (json.parse_map h o)
mapped f g n m h so None within = tt
mapped f g n m h so (Some p) within = so p.0 (length p.1) within

and_more : {B : Type 0} (g : B → ℕ) (h : json.Json → B → B) → ((j : json.Json) (b : B) → g (h j b) ≡ parts j + g b) → (more : json.Parse B) → TakesAll g more → (n m : ℕ) → n ≤ m → (o : Option (json.Json × List Token)) → AreWithin parts n o
    → AreWithin g m (option_and_then (λ q. json.parse_map (h q.0) (more q.1)) o)
and_more g h is more takes n m most None within = tt
and_more g h is more takes n m most (Some q) within = mapped g g (length q.1) m (h q.0) (λ b left few. omega (arith, few, within, most, is q.0 b)) (more q.1) (takes q.1)

-- the bracket that closes an array, and what follows it
array_end : (ts rest : List Token) → json.after_end_array ts ≡ Some rest → length rest ≤ length ts
array_end [] rest e = cc
array_end (Token.begin_object ∷ ts) rest e = cc
array_end (Token.end_object ∷ ts) rest e = cc
array_end (Token.begin_array ∷ ts) rest e = cc
array_end (Token.end_array ∷ ts) rest e = let same : ts ≡ rest = cc in omega (arith, ap length same)
array_end (Token.key s ∷ ts) rest e = cc
array_end (Token.string s ∷ ts) rest e = cc
array_end (Token.number s ∷ ts) rest e = cc
array_end (Token.boolean b ∷ ts) rest e = cc
array_end (Token.null ∷ ts) rest e = cc
array_end (Token.bad ∷ ts) rest e = cc

-- a key, and what follows it
key_end : (ts : List Token) → AreWithin {A = Option (List ℕ)} (λ k. 0) (length ts) (json.read_key ts)
key_end [] = tt
key_end (Token.begin_object ∷ ts) = tt
key_end (Token.end_object ∷ ts) = omega arith
key_end (Token.begin_array ∷ ts) = tt
key_end (Token.end_array ∷ ts) = tt
key_end (Token.key s ∷ ts) = omega arith
key_end (Token.string s ∷ ts) = tt
key_end (Token.number s ∷ ts) = tt
key_end (Token.boolean b ∷ ts) = tt
key_end (Token.null ∷ ts) = tt
key_end (Token.bad ∷ ts) = tt

module _ (value : json.Parse json.Json) (takes : TakesAll parts value) where
  item_turn : (more : json.Parse json.Items) (ts : List Token) (o : Option (List Token)) → TakesAll item_parts more → json.after_end_array ts ≡ o → AreWithin item_parts (length ts) (json.items_step value more ts o)
  item_turn more ts (Some rest) again e = omega (arith, array_end ts rest e)
  item_turn more ts None again e = and_more item_parts json.item (λ j js. refl) more again (length ts) (length ts) (omega arith) (value ts) (takes ts)

  items_take : (n : ℕ) → TakesAll item_parts (json.items value n)
  unfolding json.items
  items_take zero ts = tt
  items_take (suc n) ts = item_turn (json.items value n) ts (json.after_end_array ts) (items_take n) refl

  member_turn : (more : json.Parse json.Members) (m : ℕ) (o : Option (Option (List ℕ) × List Token)) → TakesAll member_parts more → AreWithin {A = Option (List ℕ)} (λ k. 0) m o → AreWithin member_parts m (option_and_then (λ q. json.members_step value more q.0 q.1) o)
  member_turn more m None again within = tt
  member_turn more m (Some (None, rest)) again within = within
  member_turn more m (Some (Some k, rest)) again within = and_more member_parts (json.member k) (λ j ms. refl) more again (length rest) m (omega (arith, within)) (value rest) (takes rest)

  members_take : (n : ℕ) → TakesAll member_parts (json.members value n)
  unfolding json.members
  members_take zero ts = tt
  members_take (suc n) ts = member_turn (json.members value n) (length ts) (json.read_key ts) (members_take n) (key_end ts)

one_takes : (a : json.Parse json.Items) (o : json.Parse json.Members) → TakesAll item_parts a → TakesAll member_parts o → TakesAll parts (json.value_with a o)
one_takes a o some each [] = tt
one_takes a o some each (Token.begin_object ∷ ts) = mapped member_parts parts (length ts) (suc (length ts)) json.object (λ ms left few. omega (arith, few)) (o ts) (each ts)
one_takes a o some each (Token.end_object ∷ ts) = tt
one_takes a o some each (Token.begin_array ∷ ts) = mapped item_parts parts (length ts) (suc (length ts)) json.array (λ js left few. omega (arith, few)) (a ts) (some ts)
one_takes a o some each (Token.end_array ∷ ts) = tt
one_takes a o some each (Token.key s ∷ ts) = tt
one_takes a o some each (Token.string s ∷ ts) = omega arith
one_takes a o some each (Token.number s ∷ ts) = omega arith
one_takes a o some each (Token.boolean b ∷ ts) = omega arith
one_takes a o some each (Token.null ∷ ts) = omega arith
one_takes a o some each (Token.bad ∷ ts) = tt

value_takes : (depth : ℕ) → TakesAll parts (json.value depth)
unfolding json.value
value_takes zero = one_takes (λ ts. None) (λ ts. None) (λ ts. tt) (λ ts. tt)
value_takes (suc depth) =
    one_takes (λ ts. json.items (json.value depth) (length ts) ts) (λ ts. json.members (json.value depth) (length ts) ts)
    (λ ts. items_take (json.value depth) (value_takes depth) (length ts) ts) (λ ts. members_take (json.value depth) (value_takes depth) (length ts) ts)

-- ---- the values that a reader makes

abbrev mutual
  size : Data → ℕ
  size null = 1
  size (boolean b) = 1
  size (number n) = 1
  size (string s) = 1
  size (array ds) = suc (items_size ds)
  size (object ms) = suc (members_size ms)

  items_size : Items → ℕ
  items_size no_items = 0
  items_size (item d ds) = size d + items_size ds

  members_size : Members → ℕ
  members_size no_members = 0
  members_size (member k d ms) = size d + members_size ms

abbrev IsAtMost : {A : Type 0} → (A → ℕ) → ℕ → Option A → Type 0
IsAtMost f n None = ⊤
IsAtMost f n (Some a) = f a ≤ n

under : {A B : Type 0} (f : A → ℕ) (g : B → ℕ) (m n : ℕ) (h : A → B) → ((a : A) → f a ≤ m → g (h a) ≤ n) → (o : Option A) → IsAtMost f m o → IsAtMost g n (option_map h o)
under f g m n h so None within = tt
under f g m n h so (Some a) within = so a within

then_under : {A B : Type 0} (f : A → ℕ) (g : B → ℕ) (m n : ℕ) (h : A → Option B) → ((a : A) → f a ≤ m → IsAtMost g n (h a)) → (o : Option A) → IsAtMost f m o → IsAtMost g n (option_and_then h o)
then_under f g m n h so None within = tt
then_under f g m n h so (Some a) within = so a within

anything : {A : Type 0} (o : Option A) → IsAtMost (λ a. 0) 0 o
anything None = tt
anything (Some a) = omega arith

one_of_three : (o : Ordering) (a b c : Members) (n : ℕ) → members_size a ≤ n → members_size b ≤ n → members_size c ≤ n → members_size (match_ordering o a b c) ≤ n
one_of_three Less a b c n p q r = p
one_of_three Equal a b c n p q r = q
one_of_three Greater a b c n p q r = r

put_size : (k : List ℕ) (d : Data) (ms : Members) → members_size (put k d ms) ≤ size d + members_size ms
put_size k d no_members = omega arith
put_size k d (member l e ms) =
    one_of_three _ (member k d (member l e ms)) (member l d ms) (member l e (put k d ms)) (size d + (size e + members_size ms)) (omega arith) (omega arith) (omega (arith, put_size k d ms))

mutual
  made_size : (j : json.Json) → IsAtMost size (parts j) (of_json j)
  made_size json.null = omega arith
  made_size (json.boolean b) = omega arith
  made_size (json.number s) = under (λ n. 0) size 0 1 number (λ n few. omega arith) (number_of s) (anything (number_of s))
  made_size (json.string s) = omega arith
  made_size (json.array js) = under items_size size (item_parts js) (suc (item_parts js)) array (λ ds few. omega (arith, few)) (of_items js) (made_items js)
  made_size (json.object ms) = under members_size size (member_parts ms) (suc (member_parts ms)) object (λ ms few. omega (arith, few)) (of_members ms no_members) (made_members ms no_members (member_parts ms) (omega arith))

  made_items : (js : json.Items) → IsAtMost items_size (item_parts js) (of_items js)
  made_items json.no_items = omega arith
  made_items (json.item j js) =
      then_under size items_size (parts j) (parts j + item_parts js) _
      (λ d few. under items_size items_size (item_parts js) (parts j + item_parts js) (item d) (λ ds fewer. omega (arith, few, fewer)) (of_items js) (made_items js)) (of_json j) (made_size j)

  made_members : (ms : json.Members) (found : Members) (n : ℕ) → member_parts ms + members_size found ≤ n → IsAtMost members_size n (of_members ms found)
  made_members json.no_members found n few = omega (arith, few)
  made_members (json.member k j ms) found n few =
      then_under size members_size (parts j) n _ (λ d small. made_members ms (put k d found) n (omega (arith, few, small, put_size k d found))) (of_json j) (made_size j)

last_parts : (n : ℕ) (o : Option (json.Json × List Token)) → AreWithin parts n o → IsAtMost parts n (option_and_then (λ p. json.if_last p.0 p.1) o)
last_parts n None within = tt
last_parts n (Some (j, [])) within = omega (arith, within)
last_parts n (Some (j, t ∷ rest)) within = tt

wider : (m n : ℕ) (o : Option Data) → m ≤ n → IsAtMost size m o → IsAtMost size n o
wider m n None most few = tt
wider m n (Some d) most few = omega (arith, most, few)

-- a value has at most one part more than its text has bytes
pub read_size : (text : List ℕ) (d : Data) → read text ≡ Some d → size d ≤ suc (length text)
read_size text d e =
    let within = last_parts (length (tokens text)) (json.value max_depth (tokens text)) (value_takes max_depth (tokens text)) in
    let made = subst (IsAtMost size (length (tokens text))) e (then_under parts size (length (tokens text)) (length (tokens text)) of_json (λ j few. wider (parts j) (length (tokens text)) (of_json j) few (made_size j)) _ within) in
    omega (arith, made, tokens_few fresh (lex between text), lexemes_few between text)

-- ---- the points of a ladder

-- a value in an object is no larger than it
member_size : (k : List ℕ) (ms : Members) → IsAtMost size (members_size ms) (get_member k ms)
member_size k no_members = tt
member_size k (member l e ms) = by (slice_cmp nat_cmp k l) (wider (members_size ms) (size e + members_size ms) (get_member k ms) (omega arith) (member_size k ms))
  where
    by : (o : Ordering) → IsAtMost size (size e + members_size ms) (get_member k ms) → IsAtMost size (size e + members_size ms) (match_ordering o (get_member k ms) (Some e) (get_member k ms))
    by Less few = few
    by Equal few = omega arith
    by Greater few = few

value_size : (k : List ℕ) (d value : Data) → get k d ≡ Some value → suc (size value) ≤ size d
value_size k null value at = cc
value_size k (boolean b) value at = cc
value_size k (number n) value at = cc
value_size k (string s) value at = cc
value_size k (array ds) value at = cc
value_size k (object ms) value at = omega (arith, subst (IsAtMost size (members_size ms)) at (member_size k ms))

array_size : (d : Data) (ds : Items) → as_array d ≡ Some ds → size d ≡ suc (items_size ds)
array_size null ds is = cc
array_size (boolean b) ds is = cc
array_size (number n) ds is = cc
array_size (string s) ds is = cc
array_size (array own) ds is = let same : own ≡ ds = cc in ap (λ x. suc (items_size x)) same
array_size (object ms) ds is = cc

value_some : (d : Data) → 1 ≤ size d
value_some null = omega arith
value_some (boolean b) = omega arith
value_some (number n) = omega arith
value_some (string s) = omega arith
value_some (array ds) = omega arith
value_some (object ms) = omega arith

points_size : (ds : Items) (points : List Point) → ArePoints ds points → length points ≤ items_size ds
points_size no_items [] are = omega arith
points_size no_items (p ∷ points) are = absurd are
points_size (item d ds) [] are = absurd are
points_size (item d ds) (p ∷ points) are = omega (arith, value_some d, points_size ds points are.1)

-- ---- the commands of a line

neighbours_few : (points : List Point) → length (neighbours points) ≤ length points
neighbours_few [] = omega arith
neighbours_few (p ∷ []) = omega arith
neighbours_few (p ∷ next ∷ rest) = omega (arith, neighbours_few (next ∷ rest))

filtered_few : {A : Type 0} (keeps : A → Bool) (xs : List A) → length (filter keeps xs) ≤ length xs
filtered_few keeps xs = omega (arith, length-filter keeps xs, count_by-le-length keeps xs)

ladder_short : (tickers : List (List ℕ)) (line : List ℕ) (d : Data) (commands : List asked.Command) → read line ≡ Some d → AsksLadder tickers d commands → length commands ≤ length line
ladder_short tickers line d commands reads asks =
    let l = asks.ladder in
    let points = (has_ladder tickers d commands asks).1.0 in
    omega (
      arith,
      ap length asks.commands_are,
      length-map (map (request_of asks.account asks.row) (segments_of l)) (asked.Place None),
      length-map (segments_of l) (request_of asks.account asks.row),
      length-map (filter is_drop (neighbours l.points)) (segment_between l.turns),
      filtered_few is_drop (neighbours l.points),
      neighbours_few l.points,
      points_size points.2.0 l.points points.2.2,
      array_size points.0 points.2.0 points.2.1,
      value_size (codes "points") d points.0 points.1,
      read_size line d reads,
    )

line_some : (line : List ℕ) → ¬ IsBlank line → 1 ≤ length line
line_some [] written = absurd (written (All-nil _))
line_some (byte ∷ line) written = omega arith

pub no_more_than_bytes : NoMoreThanBytes
no_more_than_bytes version tickers line (Alone command) asks = line_some line asks.written
no_more_than_bytes version tickers line (OfLadder commands) asks = ladder_short tickers line asks.value commands asks.reads asks.asks

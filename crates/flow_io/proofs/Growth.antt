-- How the content of a sink grows.
use Rattle.std.proofs.Common.{◌+◌, ◌≤◌, ℕ, List, [], ◌++◌, Option, Some, None, Result, Ok, Err, OnErr, length, take, length-append, sym, append_assoc, arith}
use Rattle.std.proofs.lemmas.List.{append-nil}
use Rattle.std.proofs.Math.Seq.{take-length, take-append-add}
use Rattle.std.proofs.lemmas.List.{take-append-le}
use Rattle.flow_io.specs.Streams.{Grows, GrowsByPrefix}

-- nothing was written, or handed over
pub Grows-nothing : {A : Type 0} (held : Option (List A)) → Grows held held []
Grows-nothing None = tt
Grows-nothing (Some old) = sym (append-nil old)

-- something was, and then more
pub Grows-more : {A : Type 0} (first second third : Option (List A)) (added more : List A) → Grows first second added → Grows second third more → Grows first third (added ++ more)
Grows-more first second None added more a b = tt
Grows-more None None (Some z) added more a b = absurd b
Grows-more None (Some y) (Some z) added more a b = absurd a
Grows-more (Some x) None (Some z) added more a b = absurd b
Grows-more (Some x) (Some y) (Some z) added more a b = rw (b, a) (append_assoc x added more)

-- all of the bytes are a prefix of them
pub GrowsByPrefix-whole : (first second : Option (List ℕ)) (bytes : List ℕ) → Grows first second bytes → GrowsByPrefix first second bytes
GrowsByPrefix-whole first second bytes a = (length bytes, omega arith, rw (take-length bytes) a)

-- bytes were written, and then a prefix of more
pub GrowsByPrefix-more : (first second third : Option (List ℕ)) (bytes more : List ℕ) → Grows first second bytes → GrowsByPrefix second third more → GrowsByPrefix first third (bytes ++ more)
GrowsByPrefix-more first second third bytes more a b = (
  length bytes + b.0,
  omega (arith, length-append bytes more, b.1),
  rw (take-append-add bytes more b.0) (Grows-more first second third bytes (take b.0 more) a b.2),
)

-- a prefix of the bytes is a prefix of them and more
pub GrowsByPrefix-prefix : (first second : Option (List ℕ)) (bytes more : List ℕ) → GrowsByPrefix first second bytes → GrowsByPrefix first second (bytes ++ more)
GrowsByPrefix-prefix first second bytes more a = (a.0, omega (arith, length-append bytes more, a.1), let within : a.0 ≤ length bytes = a.1 in rw take-append-le a.2)

-- of three pieces the first was written and the second cut
pub number_cut : (first second third : Option (List ℕ)) (a b c : List ℕ) → Grows first second a → GrowsByPrefix second third b → GrowsByPrefix first third (a ++ b ++ c)
number_cut first second third a b c written cut = GrowsByPrefix-prefix first third (a ++ b) c (GrowsByPrefix-more first second third a b written cut)

-- of three pieces two were written, and the third was cut
pub end_cut : {T E : Type 0} (result : Result T E) (first second third fourth : Option (List ℕ)) (a b c : List ℕ) → Grows first second a → Grows second third b → OnErr result (GrowsByPrefix third fourth c) → OnErr result (GrowsByPrefix first fourth (a ++ b ++ c))
end_cut (Ok x) first second third fourth a b c one two cut = tt
end_cut (Err e) first second third fourth a b c one two cut = GrowsByPrefix-more first third fourth (a ++ b) c (Grows-more first second third a b one two) cut

-- An encoding does what the clauses of the program say.
use Rattle.std.proofs.Common.{◌≡◌, ◌<◌, ◌⊎◌, ℕ, List, [], Option, length, take, inl, inr, refl}
use Rattle.flow_io.specs.Streams.{GrowsByPrefix}
use Rattle.flow_io.proofs.Growth.{Grows-nothing}
use Rattle.wire_records.specs.declared.version.Version.{Version}
use Rattle.encode_word.specs.declared.stop.EncodeStop.{EncodeStop}
use Rattle.encode_word.specs.declared.stop.EncodeStop.TheVariants.{NoCommand, NoCheckpoint}
use Rattle.encode_word.specs.Encoding.{EncodesInto, EncodesShort}
use Rattle.encode_word.specs.Tasks.{encode_task}
use Rattle.encode_word.proofs.FirstBytes.{ComeIfMore, GetsFirst, no_bytes, into_gets, short_gets}
use Rattle.flow_exchange.specs.declared.form.Form.TheVariants.{Encode}
use Rattle.flow_exchange.specs.Statuses.{ended_status, unencoded}
use Rattle.flow_exchange.specs.Program.{ComesToIfMore, GetsTo}
use Rattle.exit_status.proofs.Own.{IsOwn}
use Rattle.flow_exchange.proofs.Words.{IsForm, Unwritten, nothing_is_prefix}

module _ (version : Version) where
  -- what first bytes result in, with its status
  if_more : (first text : List ℕ) → ComeIfMore version first text → ComesToIfMore (Encode version) first text
  if_more first text come = λ next more. let some = come next more in (ended_status (length first) unencoded some.0, (some.0, some.1, refl))

  gets : (limit : ℕ) (bytes text : List ℕ) → GetsFirst version (limit < length bytes) (take limit bytes) text → GetsTo (Encode version) limit bytes text
  gets limit bytes text (inl (n, come)) = inl (n, if_more (take n (take limit bytes)) text come)
  gets limit bytes text (inr (ended, comes)) = inr (ended_status limit unencoded ended, (ended, comes, refl))

  lacks : (limit : ℕ) (bytes text : List ℕ) → (text ≡ []) ⊎ EncodesShort version (limit < length bytes) (take limit bytes) text → (text ≡ []) ⊎ GetsTo (Encode version) limit bytes text
  lacks limit bytes text (inl none) = inl none
  lacks limit bytes text (inr short) = inr (gets limit bytes text (short_gets version (limit < length bytes) (take limit bytes) text short))

  -- after a failed write of the output
  cut_short : (limit : ℕ) (bytes text : List ℕ) (before after : Option (List ℕ)) → (text ≡ []) ⊎ EncodesInto version (limit < length bytes) (take limit bytes) text → GrowsByPrefix before after text
      → (other : List ℕ) × GetsTo (Encode version) limit bytes other × GrowsByPrefix before after other
  cut_short limit bytes text before after (inl none) written = ([], inl (0, if_more [] [] (no_bytes version)), nothing_is_prefix before after text [] none written)
  cut_short limit bytes text before after (inr into) written = (text, gets limit bytes text (into_gets version (limit < length bytes) (take limit bytes) text into), written)

  owns : (why : EncodeStop) → IsOwn (unencoded why)
  owns (NoCommand number) = tt
  owns NoCheckpoint = tt

  pub encode_form : IsForm (encode_task version) (Encode version) unencoded Unwritten
  encode_form = record {
    to = λ limit bytes ended text comes. (ended, comes, refl);
    so_far = λ limit bytes n text before after begun written same. ([], refl, rw same (Grows-nothing before));
    gets = λ limit bytes n text before after begun written. cut_short limit bytes text before after begun written;
    lacks = lacks;
    out = λ limit bytes text short. short;
    owns = owns;
    most = λ limit. refl;
    left = λ bytes. refl;
  }

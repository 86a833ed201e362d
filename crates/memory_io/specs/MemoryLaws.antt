-- The disk in memory is a disk.
use Rattle.std.specs.Prelude.{◌≡◌, ℕ, ◌+◌, ◌-◌, ◌≤◌, min, List, [], ◌∷◌, ◌++◌, true, false, length, take, drop, replicate, refl}
use Rattle.std.proofs.Common.{sym, ◌∙◌, ap, subst, ⊎_elim, get_or, arith, length-take, length-drop, length-append}
use Rattle.std.proofs.lemmas.List.{length-replicate, take_all, get_or-take, get_or-drop, get_or_append_left, get_or-append_right}
use Rattle.disk_edge.specs.Disks.{IsDisk}
use Rattle.disk_edge.specs.Images.{Images, written, TornWrite, TornCut}
use Rattle.memory_io.specs.Disk.{Made, looked, wrote, cut, synced, content_of, images_of, content_after, images_after, crash_of, crash_after, torn_bytes, MemoryState, disk_of, since}

-- a write that is made is one that a crash may leave
pub written_is_torn : (place : ℕ) (bytes old : List ℕ) → TornWrite place (length bytes) old (written place bytes old)
written_is_torn place bytes old = record {
  no_shorter = omega (arith, long);
  no_longer = omega (arith, long);
  outside = λ i below out. ⊎_elim (λ before.
      get_or_append_left (take place old ++ bytes) (drop (place + length bytes) old) 0 i (omega (arith, prefix_long, before, below))
      ∙ get_or_append_left (take place old) bytes 0 i (omega (arith, length-take place old, before, below))
      ∙ get_or-take place old i 0 before)
      (λ following.
      get_or-append_right (take place old ++ bytes) (drop (place + length bytes) old) (place + length bytes) i 0 (omega (arith, prefix_long, below, following)) following
      ∙ get_or-drop (place + length bytes) old (i - (place + length bytes)) 0
      ∙ ap (λ (k : ℕ). get_or old k 0) (omega (arith, following))) out;
}
  where
    prefix_long : length (take place old ++ bytes) ≡ min place (length old) + length bytes
    prefix_long = omega (arith, length-append (take place old) bytes, length-take place old)

    long : length (written place bytes old) ≡ min place (length old) + length bytes + (length old - (place + length bytes))
    long = omega (arith, length-append (take place old ++ bytes) (drop (place + length bytes) old), prefix_long, length-drop (place + length bytes) old)

-- a cut that is made is one that a crash may leave
pub cut_is_torn : (to : ℕ) (old : List ℕ) → TornCut to old (take to old)
cut_is_torn to old = record {
  no_shorter = omega (arith, length-take to old);
  no_longer = omega (arith, length-take to old);
  prefix = λ i below within. get_or-take to old i 0 (omega (arith, length-take to old, within));
}

-- what a read gives is one of the images
content_is_image : (call : Made) (held : List ℕ) (images : Images) → images held → images_of call held images (content_of call held)
content_is_image looked held images is = is
content_is_image (wrote place bytes true) held images is = (held, is, written_is_torn place bytes held)
content_is_image (wrote place bytes false) held images is = (held, is, record { no_shorter = omega arith; no_longer = omega arith; outside = λ i below out. refl })
content_is_image (cut to true) held images is = (held, is, cut_is_torn to held)
content_is_image (cut to false) held images is = (held, is, record { no_shorter = omega arith; no_longer = omega arith; prefix = λ i below within. refl })
content_is_image synced held images is = refl

content_among : (calls : List Made) (held : List ℕ) (images : Images) → images held → images_after calls held images (content_after calls held)
content_among [] held images is = is
content_among (call ∷ calls) held images is = content_among calls (content_of call held) (images_of call held images) (content_is_image call held images is)

at_all : (disk : MemoryState) (count : ℕ) (image : List ℕ) → length disk.made ≤ count → images_after (take count disk.made) disk.first (λ (i : List ℕ). i ≡ disk.first) image → images_after disk.made disk.first (λ (i : List ℕ). i ≡ disk.first) image
at_all disk count image all is = subst (λ (calls : List Made). images_after calls disk.first (λ (i : List ℕ). i ≡ disk.first) image) (take_all count disk.made all) is

pub is_disk : (disk : MemoryState) → IsDisk (disk_of disk)
is_disk disk = record {
  content = content_among disk.made disk.first (λ (i : List ℕ). i ≡ disk.first) refl;
  now = λ image left. at_all disk left.0 image left.1 left.3;
  counts = λ time image le is. (length disk.made, le, omega arith, subst (λ (calls : List Made). images_after calls disk.first (λ (i : List ℕ). i ≡ disk.first) image) (sym (take_all (length disk.made) disk.made (omega arith))) is);
}

-- what one crash leaves is one of the images
crash_is_image : (part fill : ℕ) (call : Made) (held image : List ℕ) (images : Images) → images image → images_of call held images (crash_of part fill call held image)
crash_is_image part fill looked held image images is = is
crash_is_image part fill (wrote place bytes done) held image images is =
    let size : length (torn_bytes part fill bytes) ≡ length bytes = omega (arith, length-append (take part bytes) (replicate (length bytes - part) fill), length-take part bytes, length-replicate (length bytes - part) fill) in
    (image, is, subst (λ (n : ℕ). TornWrite place n image (written place (torn_bytes part fill bytes) image)) size (written_is_torn place (torn_bytes part fill bytes) image))
crash_is_image part fill (cut to true) held image images is = (image, is, cut_is_torn to image)
crash_is_image part fill (cut to false) held image images is = (image, is, record { no_shorter = omega arith; no_longer = omega arith; prefix = λ i below within. refl })
crash_is_image part fill synced held image images is = refl

pub crash_among : (part fill : ℕ) (calls : List Made) (held image : List ℕ) (images : Images) → images image → images_after calls held images (crash_after part fill calls held image)
crash_among part fill [] held image images is = is
crash_among part fill (call ∷ calls) held image images is = crash_among part fill calls (content_of call held) (crash_of part fill call held image) (images_of call held images) (crash_is_image part fill call held image images is)

-- a stop in a call leaves what a crash at some moment since the call began may leave
pub stop_left : (disk : MemoryState) (call count part fill : ℕ) (image : List ℕ) → call ≤ count + 1 → count ≤ length disk.made → image ≡ crash_after part fill (take count disk.made) disk.first disk.first → since disk (call - 1) image
stop_left disk call count part fill image near within is =
    (count, omega (arith, near), within, subst (λ (l : List ℕ). images_after (take count disk.made) disk.first (λ (i : List ℕ). i ≡ disk.first) l) (sym is) (crash_among part fill (take count disk.made) disk.first disk.first (λ (i : List ℕ). i ≡ disk.first) refl))

-- What a call does to the disk in memory, as a disk.
use Rattle.std.proofs.Common.{◌≡◌, ◌⊎◌, inl, inr, ⊎_elim, ℕ, ◌+◌, ◌≤◌, ◌<◌, List, [], ◌∷◌, ◌++◌, Bool, true, false, length, take, Some, Result, Ok, Err, OnOk, OnErr, IsErr, is_err, is_ok, ◌↔◌, if◌then◌else◌, nat_lt, refl, sym, ap, ◌∙◌, subst, arith, length-append}
use Rattle.std.proofs.lemmas.List.{take_all, take-append-le}
use Rattle.std.specs.Prelude.{IfOk}
use Rattle.memory_io.specs.Fakes.{one_more}
use Rattle.flow_io.specs.Faults.{Blames}
use Rattle.disk_edge.specs.Disks.{Elapses, OnlyTells, ChangesBy}
use Rattle.disk_edge.specs.Images.{Images, written, TornWrite, TornCut, After, AddsNone, AddsNoLonger, LeavesOnly}
use Rattle.memory_io.specs.Disk.{Made, looked, wrote, cut, synced, content_of, images_of, content_after, images_after, MemoryState, disk_of, after_call, write_call, bytes_written, NextFails, FillsRoom}
use Rattle.memory_io.specs.MemoryLaws.{is_disk}
use Rattle.std.proofs.lemmas.Bool.Decides.{nat_tests}
use Rattle.disk_edge.proofs.Torn.{write_stays, cut_stays}

pub content_push : (calls : List Made) (call : Made) (held : List ℕ) → content_after (calls ++ call ∷ []) held ≡ content_of call (content_after calls held)
content_push [] call held = refl
content_push (first ∷ calls) call held = content_push calls call (content_of first held)

pub images_push : (calls : List Made) (call : Made) (held : List ℕ) (images : Images) → images_after (calls ++ call ∷ []) held images ≡ images_of call (content_after calls held) (images_after calls held images)
images_push [] call held images = refl
images_push (first ∷ calls) call held images = images_push calls call (content_of first held) (images_of first held images)

pub bytes_push : (calls : List Made) (call : Made) → bytes_written (calls ++ call ∷ []) ≡ bytes_written calls + bytes_written (call ∷ [])
bytes_push [] call = omega arith
bytes_push (looked ∷ calls) call = bytes_push calls call
bytes_push (wrote place bytes done ∷ calls) call = omega (arith, bytes_push calls call)
bytes_push (cut to done ∷ calls) call = bytes_push calls call
bytes_push (synced ∷ calls) call = bytes_push calls call

-- the one image of the first bytes
abbrev only : List ℕ → Images
only first = λ image. image ≡ first

true_or_false : (b : Bool) → (b ≡ true) ⊎ (b ≡ false)
true_or_false true = inl refl
true_or_false false = inr refl

within_or_past : (a b : ℕ) → (a ≤ b) ⊎ (b < a)
within_or_past a b = grind arith

-- the moments after a call, recorded or not
module _ (disk : MemoryState) (calls faults : ℕ) where
  abbrev made_more : List Made → MemoryState
  made_more made = record disk { made = made; calls = calls; faults = faults }

  same_time : Elapses (disk_of disk) (disk_of (made_more disk.made))
  same_time = record { later = omega arith; stays = λ time image le left. left; nothing_else = λ time image le left. inl left }

  push_time : (call : Made) → Elapses (disk_of disk) (disk_of (made_more (disk.made ++ call ∷ [])))
  push_time call = record {
    later = omega (arith, length-append disk.made (call ∷ []));
    stays = λ time image le left. (left.0, left.1, omega (arith, left.2, length-append disk.made (call ∷ [])), subst (λ (made : List Made). images_after made disk.first (only disk.first) image) (sym (take-append-le left.0 disk.made (call ∷ []) left.2)) left.3);
    nothing_else = λ time image le left. ⊎_elim
        (λ within. inl (left.0, left.1, within, subst (λ (made : List Made). images_after made disk.first (only disk.first) image) (take-append-le left.0 disk.made (call ∷ []) within) left.3))
        (λ past. inr (subst (λ (made : List Made). images_after made disk.first (only disk.first) image) (take_all left.0 (disk.made ++ call ∷ []) (omega (arith, past, length-append disk.made (call ∷ [])))) left.3))
        (within_or_past left.0 (length disk.made));
  }

pub call_time : (disk : MemoryState) (call : Made) (failed : Bool) → Elapses (disk_of disk) (disk_of (after_call disk call failed))
call_time disk call failed = either (nat_lt disk.calls disk.most)
  where
    either : (b : Bool) → Elapses (disk_of disk) (disk_of (record disk { made = if b then disk.made ++ call ∷ [] else disk.made; calls = one_more disk.calls; faults = if failed then one_more disk.faults else disk.faults }))
    either true = push_time disk (one_more disk.calls) (if failed then one_more disk.faults else disk.faults) call
    either false = same_time disk (one_more disk.calls) (if failed then one_more disk.faults else disk.faults)

-- what a call does to the content, recorded or not
pub call_content : (disk : MemoryState) (call : Made) (failed : Bool) → ((held : List ℕ) → content_of call held ≡ held) → (disk_of (after_call disk call failed)).content ≡ (disk_of disk).content
call_content disk call failed stays = either (nat_lt disk.calls disk.most)
  where
    either : (b : Bool) → Some (content_after (if b then disk.made ++ call ∷ [] else disk.made) disk.first) ≡ Some (content_after disk.made disk.first)
    either true = ap (λ (l : List ℕ). Some l) (content_push disk.made call disk.first ∙ stays (content_after disk.made disk.first))
    either false = refl

-- each image after a call, recorded or not, has a property that those before it have, and those that the call adds
pub call_images : (disk : MemoryState) (call : Made) (failed : Bool) (P : Images) → ((image : List ℕ) → (disk_of disk).images image → P image) → ((image : List ℕ) → images_of call (content_after disk.made disk.first) (disk_of disk).images image → P image) → (image : List ℕ) → (disk_of (after_call disk call failed)).images image → P image
call_images disk call failed P before added = either (nat_lt disk.calls disk.most)
  where
    either : (b : Bool) (image : List ℕ) → images_after (if b then disk.made ++ call ∷ [] else disk.made) disk.first (only disk.first) image → P image
    either true image left = added image (subst (λ (Q : Images). Q image) (images_push disk.made call disk.first (only disk.first)) left)
    either false image left = before image left

-- a call that doesn't fail for its number is recorded
pub taken_down : (disk : MemoryState) → (¬ NextFails disk) → nat_lt disk.calls disk.most ≡ true
taken_down disk free = ⊎_elim (λ (is : nat_lt disk.calls disk.most ≡ true). is) (λ (past : nat_lt disk.calls disk.most ≡ false). absurd (free (inr (grind (arith, nat_tests))))) (true_or_false (nat_lt disk.calls disk.most))

-- the content after a call that doesn't fail for its number
pub done_content : (disk : MemoryState) (call : Made) (failed : Bool) → (¬ NextFails disk) → (disk_of (after_call disk call failed)).content ≡ Some (content_of call (content_after disk.made disk.first))
done_content disk call failed free = either (nat_lt disk.calls disk.most) (taken_down disk free)
  where
    either : (b : Bool) → b ≡ true → Some (content_after (if b then disk.made ++ call ∷ [] else disk.made) disk.first) ≡ Some (content_of call (content_after disk.made disk.first))
    either true is = ap (λ (l : List ℕ). Some l) (content_push disk.made call disk.first)
    either false is = cc

-- the images after a call that doesn't fail for its number
pub done_images : (disk : MemoryState) (call : Made) (failed : Bool) → (¬ NextFails disk) → (image : List ℕ) → (disk_of (after_call disk call failed)).images image → images_of call (content_after disk.made disk.first) (disk_of disk).images image
done_images disk call failed free = either (nat_lt disk.calls disk.most) (taken_down disk free)
  where
    either : (b : Bool) → b ≡ true → (image : List ℕ) → images_after (if b then disk.made ++ call ∷ [] else disk.made) disk.first (only disk.first) image → images_of call (content_after disk.made disk.first) (disk_of disk).images image
    either true is image left = subst (λ (Q : Images). Q image) (images_push disk.made call disk.first (only disk.first)) left
    either false is image left = cc

module _ (disk new : MemoryState) where
  time_goes : (call : Made) (failed : Bool) → new ≡ after_call disk call failed → Elapses (disk_of disk) (disk_of new)
  time_goes call failed made = rw made (call_time disk call failed)

  module _ (failed : Bool) (made : new ≡ after_call disk looked failed) where
    look_content : (disk_of new).content ≡ (disk_of disk).content
    look_content = rw made (call_content disk looked failed (λ held. refl))

    pub look_held : content_after new.made new.first ≡ content_after disk.made disk.first
    look_held = rw made (either (nat_lt disk.calls disk.most))
      where
        either : (b : Bool) → content_after (if b then disk.made ++ looked ∷ [] else disk.made) disk.first ≡ content_after disk.made disk.first
        either true = content_push disk.made looked disk.first
        either false = refl

    look_images : AddsNone (disk_of disk).images (disk_of new).images
    look_images = rw made (call_images disk looked failed (disk_of disk).images (λ image is. is) (λ image is. is))

    pub look_tells : {T E : Type 0} (result : Result T E) (IsTold : T → List ℕ → Type 0) → IfOk result (λ value. IsTold value (content_after disk.made disk.first)) → Blames (IsErr result) disk.faults new.faults → OnlyTells result IsTold (disk_of disk) (disk_of new)
    look_tells result IsTold told cause = record { told = told; content = look_content; images = look_images; time = time_goes looked failed made; cause = cause }

  cut_content : {T E : Type 0} (to : ℕ) (result : Result T E) → new ≡ after_call disk (cut to (is_ok result)) (is_err result) → (IsErr result ↔ NextFails disk) → OnOk result ((disk_of new).content ≡ Some (take to (content_after disk.made disk.first)))
  cut_content to (Ok value) made fails = rw made (done_content disk (cut to true) false (λ may. let bad : false ≡ true = fails.1 may in cc))
  cut_content to (Err error) made fails = tt

  cut_images : (to : ℕ) (done failed : Bool) → new ≡ after_call disk (cut to done) failed → AddsNone (After (TornCut to) (disk_of disk).images) (disk_of new).images
  cut_images to done failed made = rw made (call_images disk (cut to done) failed (After (TornCut to) (disk_of disk).images) (λ image is. (image, is, cut_stays to image)) (λ image is. is))

  pub cut_changes : {T E : Type 0} (to : ℕ) (result : Result T E) → new ≡ after_call disk (cut to (is_ok result)) (is_err result) → (IsErr result ↔ NextFails disk) → Blames (IsErr result) disk.faults new.faults → ChangesBy result (take to) (TornCut to) (disk_of disk) (disk_of new)
  cut_changes to result made fails cause = record {
    content = cut_content to result made fails;
    known = (λ is. is, λ is. is);
    images = cut_images to (is_ok result) (is_err result) made;
    time = time_goes (cut to (is_ok result)) (is_err result) made;
    cause = cause;
  }

  pub cut_no_longer : (to : ℕ) (done failed : Bool) → new ≡ after_call disk (cut to done) failed → to ≤ length (content_after disk.made disk.first) → AddsNoLonger (disk_of disk).images (disk_of new).images
  cut_no_longer to done failed made within = λ image left.
      let from = cut_images to done failed made image left in
      ⊎_elim (λ (short : length image ≤ length from.0). (from.0, from.1, short))
      (λ (past : length from.0 < length image). (content_after disk.made disk.first, (is_disk disk).content, omega (arith, from.2.no_longer, past, within)))
      (within_or_past (length image) (length from.0))

  write_images : (place : ℕ) (bytes : List ℕ) (done failed : Bool) → new ≡ after_call disk (write_call disk place bytes done) failed → AddsNone (After (TornWrite place (length bytes)) (disk_of disk).images) (disk_of new).images
  write_images place bytes done failed made = rw made (either (nat_lt disk.room (bytes_written disk.made + length bytes)))
    where
      either : (full : Bool) → AddsNone (After (TornWrite place (length bytes)) (disk_of disk).images) (disk_of (after_call disk (if full then looked else wrote place bytes done) failed)).images
      either true = call_images disk looked failed (After (TornWrite place (length bytes)) (disk_of disk).images) (λ image is. (image, is, write_stays place (length bytes) image)) (λ image is. (image, is, write_stays place (length bytes) image))
      either false = call_images disk (wrote place bytes done) failed (After (TornWrite place (length bytes)) (disk_of disk).images) (λ image is. (image, is, write_stays place (length bytes) image)) (λ image is. is)

  write_content : {T E : Type 0} (place : ℕ) (bytes : List ℕ) (result : Result T E) → new ≡ after_call disk (write_call disk place bytes (is_ok result)) (is_err result) → (IsErr result ↔ (NextFails disk ⊎ FillsRoom disk bytes)) → OnOk result ((disk_of new).content ≡ Some (written place bytes (content_after disk.made disk.first)))
  write_content place bytes (Ok value) made fails =
      let fits : nat_lt disk.room (bytes_written disk.made + length bytes) ≡ false = ⊎_elim
      (λ (full : nat_lt disk.room (bytes_written disk.made + length bytes) ≡ true). let past : FillsRoom disk bytes = grind (arith, nat_tests) in let bad : false ≡ true = fails.1 (inr past) in cc)
      (λ (is : nat_lt disk.room (bytes_written disk.made + length bytes) ≡ false). is)
      (true_or_false (nat_lt disk.room (bytes_written disk.made + length bytes))) in
      rw (made, fits) (done_content disk (wrote place bytes true) false (λ may. let bad : false ≡ true = fails.1 (inl may) in cc))
  write_content place bytes (Err error) made fails = tt

  pub write_changes : {T E : Type 0} (place : ℕ) (bytes : List ℕ) (result : Result T E) → new ≡ after_call disk (write_call disk place bytes (is_ok result)) (is_err result) → (IsErr result ↔ (NextFails disk ⊎ FillsRoom disk bytes)) → Blames (IsErr result) disk.faults new.faults → ChangesBy result (written place bytes) (TornWrite place (length bytes)) (disk_of disk) (disk_of new)
  write_changes place bytes result made fails cause = record {
    content = write_content place bytes result made fails;
    known = (λ is. is, λ is. is);
    images = write_images place bytes (is_ok result) (is_err result) made;
    time = time_goes (write_call disk place bytes (is_ok result)) (is_err result) made;
    cause = cause;
  }

  sync_content : {T E : Type 0} (result : Result T E) → OnOk result (new ≡ after_call disk synced false) → OnErr result (new ≡ after_call disk looked true) → (disk_of new).content ≡ (disk_of disk).content
  sync_content (Ok value) ok err = rw ok (call_content disk synced false (λ held. refl))
  sync_content (Err error) ok err = rw err (call_content disk looked true (λ held. refl))

  sync_kept : {T E : Type 0} (result : Result T E) → OnOk result (new ≡ after_call disk synced false) → (IsErr result ↔ NextFails disk) → IfOk result (λ value. LeavesOnly (disk_of new).images (content_after disk.made disk.first))
  sync_kept (Ok value) ok fails = rw ok (done_images disk synced false (λ may. let bad : false ≡ true = fails.1 may in cc))
  sync_kept (Err error) ok fails = tt

  sync_images : {T E : Type 0} (result : Result T E) → OnOk result (new ≡ after_call disk synced false) → OnErr result (new ≡ after_call disk looked true) → AddsNone (disk_of disk).images (disk_of new).images
  sync_images (Ok value) ok err = rw ok (call_images disk synced false (disk_of disk).images (λ image is. is) (λ image is. subst (λ (l : List ℕ). (disk_of disk).images l) (sym is) (is_disk disk).content))
  sync_images (Err error) ok err = rw err (call_images disk looked true (disk_of disk).images (λ image is. is) (λ image is. is))

  sync_time : {T E : Type 0} (result : Result T E) → OnOk result (new ≡ after_call disk synced false) → OnErr result (new ≡ after_call disk looked true) → Elapses (disk_of disk) (disk_of new)
  sync_time (Ok value) ok err = time_goes synced false ok
  sync_time (Err error) ok err = time_goes looked true err

  pub sync_tells : {T E : Type 0} (result : Result T E) → OnOk result (new ≡ after_call disk synced false) → OnErr result (new ≡ after_call disk looked true) → (IsErr result ↔ NextFails disk) → Blames (IsErr result) disk.faults new.faults → OnlyTells result (λ _. LeavesOnly (disk_of new).images) (disk_of disk) (disk_of new)
  sync_tells result ok err fails cause = record {
    told = sync_kept result ok fails;
    content = sync_content result ok err;
    images = sync_images result ok err;
    time = sync_time result ok err;
    cause = cause;
  }

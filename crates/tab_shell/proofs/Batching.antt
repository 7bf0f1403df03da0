-- The batches of a session, and what they print.
use Rattle.std.proofs.Common.{ℕ, suc, ◌≡◌, ◌≢◌, ◌+◌, ◌*◌, ◌<◌, inl, inr, List, [], ◌++◌, length, take, drop, refl, sym, ap, ◌∙◌, subst, arith, append_assoc, length-take, length-drop, take-append-drop, Result, Ok, Err, Bool, true, false}
use Rattle.std.specs.Prelude.{codes}
use Rattle.std.specs.List.{flat_map}
use Rattle.std.proofs.Math.Seq.{take-add}
use Rattle.std.proofs.lemmas.List.{take_all, drop-drop}
use Rattle.tab_key.specs.Records.{Cell}
use Rattle.tab_cells.specs.SessionState.{SessionState, batch, gave}
use Rattle.tab_history.specs.declared.reply.Refusal.TheVariants.{NoMemory}
use Rattle.tab_io.specs.Writing.{HasPut, HasPutPart}
use Rattle.tab_io.specs.declared.writing.Output.{Ghosts}
use Rattle.tab_io.proofs.Putting.{put_more, put_none, put_part_more, part_longer}
use Rattle.tab_io.proofs.Each.{flat_map-append}
use Rattle.tab_text.specs.Lines.{cell_text}
use Rattle.tab_replies.specs.Texts.{refusal_text, scan_text, lacking_text}
use Rattle.tab_shell.specs.Readings.{AllRead, Lacking, IsReadingText}
use Rattle.tab_shell.specs.Batches.{PutsBatch, PutsEnd, PutsTaken, left_of}

-- the text of cells
abbrev pub cells_text : List Cell → List ℕ
cells_text cells = flat_map cell_text cells

-- a batch that isn't full is all that is left
pub last_batch : (left : List Cell) → length (take 1000 left) ≢ 1000 → IsReadingText left (scan_text (take 1000 left))
last_batch left short = (AllRead, tt, ap scan_text (take_all 1000 left (omega (arith, length-take 1000 left, short))))

-- memory lacked at once
pub lacks_now : (left : List Cell) → IsReadingText left (refusal_text NoMemory)
lacks_now left = (Lacking 0, omega arith, refl)

-- the cells in front, and those behind them
parted : (n : ℕ) (left : List Cell) → cells_text left ≡ cells_text (take n left) ++ cells_text (drop n left)
parted n left = ap cells_text (sym (take-append-drop n left)) ∙ flat_map-append cell_text (take n left) (drop n left)

-- all cells, where a full batch comes first
whole_text : (left : List Cell) → cells_text (take 1000 left) ++ scan_text (drop 1000 left) ≡ scan_text left
whole_text left = sym (append_assoc (cells_text (take 1000 left)) (cells_text (drop 1000 left)) (codes "end\n")) ∙ ap (λ (t : List ℕ). t ++ codes "end\n") (sym (parted 1000 left))

-- one batch more than k
more_text : (k : ℕ) (left : List Cell) → cells_text (take 1000 left) ++ lacking_text (take (1000 * k) (drop 1000 left)) ≡ lacking_text (take (1000 * suc k) left)
more_text k left =
    let front : List Cell = take 1000 left in
    let next : List Cell = take (1000 * k) (drop 1000 left) in
    let count : 1000 + 1000 * k ≡ 1000 * suc k = omega arith in
    sym (append_assoc (cells_text front) (cells_text next) (refusal_text NoMemory))
    ∙ ap (λ (t : List ℕ). t ++ refusal_text NoMemory) (sym (flat_map-append cell_text front next) ∙ ap cells_text (sym (take-add 1000 (1000 * k) left) ∙ ap (λ (n : ℕ). take n left) count))

-- behind a full batch the reading goes on
pub batch_more : (left : List Cell) (t : List ℕ) → length (take 1000 left) ≡ 1000 → IsReadingText (drop 1000 left) t → IsReadingText left (cells_text (take 1000 left) ++ t)
batch_more left t full (AllRead, fits, e) = (AllRead, tt, ap (λ (u : List ℕ). cells_text (take 1000 left) ++ u) e ∙ whole_text left)
batch_more left t full (Lacking k, fits, e) =
    (Lacking (suc k), omega (arith, full, fits, length-take 1000 left, length-drop 1000 left), ap (λ (u : List ℕ). cells_text (take 1000 left) ++ u) e ∙ more_text k left)

-- what is left of a session after a full batch
pub left_after : (old new : SessionState) → new ≡ gave 1000 old → left_of new ≡ drop 1000 (left_of old)
left_after old new is = ap left_of is ∙ ap (λ (n : ℕ). drop n old.all) (omega arith) ∙ sym (drop-drop 1000 old.given old.all)

-- ---- batches put one after another
module _ {W : Type 0} (g : Ghosts W) where
  -- what was put, behind which the reading goes on
  abbrev pub HasRead : List Cell → List Cell → W → W → Type 0
  HasRead first left a b = (done : List ℕ) × HasPut g a b done × ((t : List ℕ) → IsReadingText left t → IsReadingText first (done ++ t))

  pub read_none : (left : List Cell) (a : W) → HasRead left left a a
  read_none left a = ([], put_none g a, λ t is. is)

  -- what a batch of a session put
  pub puts_batch : {E : Type 0} (old new : SessionState) (a b : W) (r : Result Bool E) → new ≡ gave (length (batch old 1000)) old → PutsTaken g a b (batch old 1000) r → PutsBatch g a b old new r
  puts_batch old new a b (Ok true) after (full, put) = (after ∙ ap (λ (n : ℕ). gave n old) full, full, put)
  puts_batch old new a b (Ok false) after (short, put) = (scan_text (batch old 1000), last_batch (left_of old) short, put)
  puts_batch old new a b (Err e) after (inl part) =
      (scan_text (left_of old), (AllRead, tt, refl), subst (λ (t : List ℕ). HasPutPart g a b t) (whole_text (left_of old)) (part_longer (scan_text (drop 1000 (left_of old))) part))
  puts_batch old new a b (Err e) after (inr (short, part)) = (scan_text (batch old 1000), last_batch (left_of old) short, part)

  -- memory lacked for the batch
  pub puts_lack : {E : Type 0} (old new : SessionState) (a b : W) (r : Result Bool E) → PutsEnd g a b (refusal_text NoMemory) r → PutsBatch g a b old new r
  puts_lack old new a b (Ok true) puts = absurd puts
  puts_lack old new a b (Ok false) put = (refusal_text NoMemory, lacks_now (left_of old), put)
  puts_lack old new a b (Err e) part = (refusal_text NoMemory, lacks_now (left_of old), part)

  -- a full batch more
  pub read_on : {E : Type 0} (first : List Cell) (old new : SessionState) (a b c : W) (r : Result Bool E) → r ≡ Ok true → HasRead first (left_of old) a b → PutsBatch g b c old new r → HasRead first (left_of new) a c
  read_on first old new a b c (Ok true) is (done, put, goes) (after, full, more) =
      let next : List ℕ = cells_text (batch old 1000) in (
        done ++ next,
        put_more put more,
        λ (t : List ℕ) rest.
            let behind : IsReadingText (drop 1000 (left_of old)) t = subst (λ (left : List Cell). IsReadingText left t) (left_after old new after) rest in
            subst (λ (u : List ℕ). IsReadingText first u) (sym (append_assoc done next t)) (goes (next ++ t) (batch_more (left_of old) t full behind)),
      )
  read_on first old new a b c (Ok false) is come puts = absurd cc
  read_on first old new a b c (Err e) is come puts = absurd cc

  -- fewer cells are left after it
  pub fewer : {E : Type 0} (old new : SessionState) (a b : W) (r : Result Bool E) → r ≡ Ok true → PutsBatch g a b old new r → length (left_of new) < length (left_of old)
  fewer old new a b (Ok true) is (after, full, put) = omega (arith, full, ap length (left_after old new after), length-drop 1000 (left_of old), length-take 1000 (left_of old))
  fewer old new a b (Ok false) is puts = absurd cc
  fewer old new a b (Err e) is puts = absurd cc

  -- the last batch
  pub read_last : {E : Type 0} (first : List Cell) (old new : SessionState) (a b c : W) (r : Result Bool E) → r ≡ Ok false → HasRead first (left_of old) a b → PutsBatch g b c old new r
      → (text : List ℕ) × IsReadingText first text × HasPut g a c text
  read_last first old new a b c (Ok false) is (done, put, goes) (text, rest, more) = (done ++ text, goes text rest, put_more put more)
  read_last first old new a b c (Ok true) is come puts = absurd cc
  read_last first old new a b c (Err e) is come puts = absurd cc

  -- a fault
  pub read_part : (first left : List Cell) (a b c : W) (text : List ℕ) → HasRead first left a b → IsReadingText left text → HasPutPart g b c text → (all : List ℕ) × IsReadingText first all × HasPutPart g a c all
  read_part first left a b c text (done, put, goes) rest more = (done ++ text, goes text rest, put_part_more put more)

-- A record of a window.
use Rattle.std.proofs.Common.{◌≡◌, ℕ, ◌+◌, ◌-◌, ◌<◌, List, ◌∙◌, ap, length, take, arith}
use Rattle.std.specs.List.{slice_index_or}
use Rattle.std.proofs.lemmas.List.{get_or-drop, get_or-take}
use Rattle.tab_key.specs.Encoding.{records_at}
use Rattle.tab_key.specs.Records.{Record}
use Rattle.tab_table.specs.Blocks.{block_records}
use Rattle.tab_table.specs.Windows.{IsWindow, Has}
use Rattle.tab_table.specs.declared.window.Window.{Window}

pub seen : (w : Window) (blocks : List ℕ) (count index i : ℕ) (u r : Record) → IsWindow w blocks count → Has w index → i ≡ index - w.first → r ≡ slice_index_or (records_at (take w.records.end w.records.body.items) w.records.places.items) i u → r ≡ slice_index_or (block_records blocks count) index u
seen w blocks count index i u r is h e read =
    let d = (is h.known).decoded in
    let rs = block_records blocks count in
    let end = w.first + length w.records.places.items in
    let sum : w.first + i ≡ index = omega (arith, h.low, e) in
    let low : w.first + i < end = omega (arith, sum, h.high) in
    read ∙ ap (λ us. slice_index_or us i u) d.records ∙ get_or-drop w.first (take end rs) i u ∙ get_or-take end rs (w.first + i) u low ∙ ap (λ k. slice_index_or rs k u) sum

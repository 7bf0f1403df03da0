-- For proofs. What values of the code stand for.
use Rattle.std.specs.Prelude.{◌≡◌, List, [], ◌∷◌, ◌++◌, ℕ, Option, Some, None, Result, Ok, Err}
use Rattle.std.specs.Option.{option_map}
use Rattle.tab_io.specs.Writing.{HasPut, HasPutPart}
use Rattle.tab_io.specs.declared.writing.Output.{Ghosts}
use Rattle.tab_csv.specs.Meaning.{Change}
use Rattle.tab_csv.specs.CsvLines.{change_line}
use Rattle.tab_csv.specs.declared.importing.Mode.{Mode}
use Rattle.tab_csv.specs.declared.importing.Mode.TheVariants.{Write, Check}
use Rattle.tab_csv.specs.declared.source.Stage.{Stage}
use Rattle.tab_csv.specs.declared.source.Stage.TheVariants.{Reading, Closed, Ended}
use Rattle.tab_csv.specs.declared.meaning.Meant.{Meant}
use Rattle.tab_csv.specs.declared.record_fault.RecordFault.{RecordFault}

-- what is meant
abbrev pub change_in : Meant → Change
change_in m = record {
  table = m.table.now;
  row = m.row.now;
  update = record {
    kind = m.kind;
    family = m.family.now;
    qualifier = m.qualifier.now;
    label = m.label.now;
    timestamp = m.timestamp;
    value = m.value.now;
  };
}

-- what was found is what is meant, or what is wrong
abbrev pub Finds : Result Meant RecordFault → Result Change RecordFault → Type 0
Finds (Ok m) means = means ≡ Ok (change_in m)
Finds (Err e) means = means ≡ Err e

-- what is put of a record
abbrev pub meant_text : Mode → Change → List ℕ
meant_text Write c = change_line c
meant_text Check c = []

abbrev pub row_line : Mode → Result Change RecordFault → List ℕ
row_line mode (Ok c) = meant_text mode c
row_line mode (Err fault) = []

-- what is told of it
abbrev pub row_fault : Result Change RecordFault → Option RecordFault
row_fault (Ok c) = None
row_fault (Err fault) = Some fault

-- its line was put, and what is wrong is told; or a beginning of the line, and a write failed
abbrev pub PutsRow : {W E : Type 0} → Ghosts W → W → W → Mode → Result Change RecordFault → Result (Option RecordFault) E → Type 0
PutsRow g old new mode means (Ok fault) = HasPut g old new (row_line mode means) × (fault ≡ row_fault means)
PutsRow g old new mode means (Err e) = HasPutPart g old new (row_line mode means)

-- a text, and a line feed behind it
abbrev pub with_feed : Option (List ℕ) → Option (List ℕ)
with_feed known = option_map (λ text. text ++ 10 ∷ []) known

-- what a source is still to hand on, of what its input still has
abbrev pub left_of : Stage → Option (List ℕ) → Option (List ℕ)
left_of Reading known = with_feed known
left_of Closed known = Some []
left_of Ended known = Some []

-- For proofs. The bytes that are written.
use Rattle.std.specs.Prelude.{ℕ, List, [], ◌++◌}
use Rattle.std.specs.List.{flat_map}
use Rattle.tab_history.specs.declared.event.Event.{Event}
use Rattle.tab_wire.specs.Replies.{u32, u64, i64, field}
use Rattle.tab_wire.specs.Sending.{act_bytes}
use Rattle.tab_journal.specs.declared.seal.Form.{Form}
use Rattle.tab_journal.specs.declared.seal.Form.TheVariants.{Plain, Tagged}
use Rattle.tab_journal.specs.declared.seal.Seal.{Seal}
use Rattle.tab_journal.specs.Journals.{sum_of, mark, Header, batch_summed}

-- of the tag
abbrev pub tag_bytes : Form → ℕ → List ℕ
tag_bytes Plain salt = []
tag_bytes Tagged salt = u64 salt

-- of a batch that keeps these bytes, behind this sum
abbrev pub summed_bytes : ℕ → ℕ → ℕ → List ℕ → List ℕ
summed_bytes salt before settled body = u64 settled ++ (field body ++ u64 (sum_of (batch_summed salt before settled body)))

abbrev pub batch_bytes : Seal → ℕ → ℕ → List ℕ → List ℕ
batch_bytes seal before settled body = tag_bytes seal.form seal.salt ++ summed_bytes seal.salt before settled body

-- of what stands in a batch before its body, of which this is the length
abbrev pub head_bytes : Seal → ℕ → ℕ → List ℕ
head_bytes seal settled len = tag_bytes seal.form seal.salt ++ (u64 settled ++ u32 len)

-- of a header
abbrev pub header_bytes : Header → List ℕ
header_bytes f = mark f.format f.seal.form ++ (u64 f.generation ++ (u64 f.next ++ (i64 f.clock ++ (u64 f.seal.salt ++ u64 f.sum))))

-- of an event that was done, at the clock that it met: that clock, the user, and the body of a frame that asks the act
abbrev pub entry_bytes : Event → List ℕ
entry_bytes e = i64 e.moment ++ (field e.user ++ field (act_bytes e.act))

-- of several, one behind the other
abbrev pub entries_bytes : List Event → List ℕ
entries_bytes = flat_map entry_bytes

-- Worked examples, computed: the forms of headers and batches.
use Rattle.std.specs.Prelude.{pos, true, false, ◌≡◌, [], ◌∷◌, ◌++◌, codes, Some, None, refl}
use Rattle.tab_codec.specs.Reading.{u32_at, u64_at, field_at}
use Rattle.tab_wire.specs.Replies.{u32, u64, i64}
use Rattle.tab_journal.specs.declared.format.Format.TheVariants.{Lines, Events}
use Rattle.tab_journal.specs.declared.seal.Form.TheVariants.{Plain, Tagged}
use Rattle.tab_journal.specs.Journals.{mark, header_summed, batch_summed}
use Rattle.tab_journal.specs.Reading.{tag_in, summed_at, batch_at}
use Rattle.tab_journal.specs.Calls.{appended, synced, state_behind}

-- the six bytes and the version
marked : mark Lines Plain ≡ 84 ∷ 65 ∷ 66 ∷ 74 ∷ 82 ∷ 78 ∷ 0 ∷ 1 ∷ []
marked = refl

marked_otherwise : mark Events Plain ≡ 84 ∷ 65 ∷ 66 ∷ 74 ∷ 82 ∷ 78 ∷ 0 ∷ 2 ∷ []
marked_otherwise = refl

marked_with_tags : mark Lines Tagged ≡ 84 ∷ 65 ∷ 66 ∷ 74 ∷ 82 ∷ 78 ∷ 0 ∷ 3 ∷ []
marked_with_tags = refl

marked_otherwise_with_tags : mark Events Tagged ≡ 84 ∷ 65 ∷ 66 ∷ 74 ∷ 82 ∷ 78 ∷ 0 ∷ 4 ∷ []
marked_otherwise_with_tags = refl

-- what sums are taken of: a header's own bytes, and a batch behind the salt and the sum before it
header_before_its_sum : header_summed Lines 1 2 (pos 3) (record { form = Plain; salt = 4 }) ≡ mark Lines Plain ++ (0 ∷ 0 ∷ 0 ∷ 0 ∷ 0 ∷ 0 ∷ 0 ∷ 1 ∷ 0 ∷ 0 ∷ 0 ∷ 0 ∷ 0 ∷ 0 ∷ 0 ∷ 2 ∷ 0 ∷ 0 ∷ 0 ∷ 0 ∷ 0 ∷ 0 ∷ 0 ∷ 3 ∷ 0 ∷ 0 ∷ 0 ∷ 0 ∷ 0 ∷ 0 ∷ 0 ∷ 4 ∷ [])
unfolding header_summed u64 i64
header_before_its_sum = refl

batch_behind_salt_and_sum : batch_summed 1 2 48 (codes "a\n") ≡ 0 ∷ 0 ∷ 0 ∷ 0 ∷ 0 ∷ 0 ∷ 0 ∷ 1 ∷ 0 ∷ 0 ∷ 0 ∷ 0 ∷ 0 ∷ 0 ∷ 0 ∷ 2 ∷ 0 ∷ 0 ∷ 0 ∷ 0 ∷ 0 ∷ 0 ∷ 0 ∷ 48 ∷ 0 ∷ 0 ∷ 0 ∷ 2 ∷ 97 ∷ 10 ∷ []
unfolding batch_summed u32 u64
batch_behind_salt_and_sum = refl

-- the tag is the salt, and no other number
tagged : tag_in Tagged 258 (0 ∷ 0 ∷ 0 ∷ 0 ∷ 0 ∷ 0 ∷ 1 ∷ 2 ∷ 97 ∷ []) ≡ Some (tt, 97 ∷ [])
unfolding tag_in u64_at
tagged = refl

tagged_otherwise : tag_in Tagged 258 (0 ∷ 0 ∷ 0 ∷ 0 ∷ 0 ∷ 0 ∷ 1 ∷ 3 ∷ 97 ∷ []) ≡ None
unfolding tag_in u64_at
tagged_otherwise = refl

-- no batch begins where there are too few bytes for one
too_few : batch_at (record { form = Plain; salt = 1 }) 2 (0 ∷ 0 ∷ 0 ∷ 0 ∷ 0 ∷ 0 ∷ 0 ∷ 48 ∷ 0 ∷ 0 ∷ 0 ∷ 2 ∷ 97 ∷ []) ≡ None
unfolding batch_at tag_in summed_at u32_at u64_at field_at
too_few = refl

-- what is known of a file into which two bytes were put, which are on the disk, and then one more; and then three, and that failed
put_and_synced : state_behind (appended true (codes "c") ∷ synced true ∷ appended true (codes "ab") ∷ []) ≡ record { seen = codes "abc"; settled = codes "ab"; torn = 0; is_usable = true; faults = 0 }
put_and_synced = refl

put_in_vain : state_behind (appended false (codes "def") ∷ appended true (codes "c") ∷ synced true ∷ appended true (codes "ab") ∷ []) ≡ record { seen = codes "abc"; settled = codes "ab"; torn = 3; is_usable = false; faults = 1 }
put_in_vain = refl

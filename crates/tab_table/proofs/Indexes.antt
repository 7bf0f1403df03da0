-- Blocks with their indexes, and one record more.
use Rattle.std.proofs.Common.{◌≡◌, ℕ, ◌*◌, ◌≤◌, List, [], sym, subst, length, arith}
use Rattle.tab_key.specs.Records.{Key}
use Rattle.tab_mem.specs.RowIndex.{IsRowIndex}
use Rattle.tab_table.specs.Blocks.{no_key, block_records, AreBlocks}
use Rattle.tab_table.specs.Indexed.{records_of, AreIndexed}
use Rattle.tab_table.specs.Restarts.{AreRestarts}
use Rattle.tab_table.specs.declared.blocks.Blocks.{Blocks}
use Rattle.tab_table.proofs.Blocked.{no_blocks, place_far}

-- ---- of no records
no_restarts : AreRestarts [] [] [] 0
no_restarts = record { all = omega arith; few = omega arith; each = λ j d u lt. absurd (omega (arith, lt)) }

no_fronts : IsRowIndex [] []
no_fronts = record { all = omega arith; few = omega arith; each = λ k d u lt. absurd (omega (arith, lt)) }

pub nothing_indexed : (b : Blocks) → b.body.items ≡ [] → b.count ≡ 0 → b.restarts.each.items ≡ [] → b.restarts.shares.items ≡ [] → b.row_index.numbers.items ≡ [] → AreIndexed b no_key
nothing_indexed b body count each shares numbers = record {
  blocks = subst (λ xs. AreBlocks xs b.count no_key) (sym body) (subst (λ n. AreBlocks [] n no_key) (sym count) no_blocks);
  restarts = subst (λ xs. AreRestarts b.restarts.each.items xs b.restarts.shares.items b.count) (sym body) (subst (λ n. AreRestarts b.restarts.each.items [] b.restarts.shares.items n) (sym count) (subst (λ xs. AreRestarts b.restarts.each.items [] xs 0) (sym shares) (subst (λ xs. AreRestarts xs [] [] 0) (sym each) no_restarts)));
  row_index = subst (λ ns. IsRowIndex ns (records_of b)) (sym numbers) (subst (IsRowIndex []) (sym (λ i. block_records (body i) (count i))) no_fronts);
}

-- ---- how many there are at most
pub few_records : (body : List ℕ) (n : ℕ) (last : Key) → AreBlocks body n last → 57 * n ≤ length body
few_records body n last h = omega (arith, place_far body 0 n, h.ends)

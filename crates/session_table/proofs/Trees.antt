-- Trees of deadlines: the root is at most each of them, and what one that is set does to those above it.
use Rattle.std.proofs.Common.{◌≡◌, ◌≢◌, ℕ, zero, suc, ◌+◌, ◌-◌, ◌*◌, ◌/◌, ◌<◌, ◌≤◌, min, List, length, drop, slice_index_or, slice_set, sym, ap, ◌∙◌, inl, inr, arith, length-set, length-drop, get_or-drop, get_or-set_same, get_or-set_other}
use Rattle.std.proofs.lemmas.Bool.{cases_eq}
use Rattle.session_table.specs.Deadlines.{LeastIsAbove, IsAtMostEach}

abbrev node_at : List ℕ → ℕ → ℕ
node_at nodes node = slice_index_or nodes node 0

-- ---- the root

root_below : (nodes : List ℕ) → LeastIsAbove nodes → (depth node : ℕ) → node ≤ depth → 1 ≤ node → node < length nodes → node_at nodes 1 ≤ node_at nodes node
root_below nodes h zero node deep some within = absurd (omega arith)
root_below nodes h (suc depth) node deep some within =
    elim (cases_eq node 1) [
      | inl e ↦ let same : node_at nodes node ≡ node_at nodes 1 = ap (node_at nodes) e in omega (arith, same)
      | inr ne ↦
          let up : node_at nodes (node / 2) ≤ node_at nodes node = h node (omega arith) within in
          let rest : node_at nodes 1 ≤ node_at nodes (node / 2) = root_below nodes h depth (node / 2) (omega arith) (omega arith) (omega arith) in
          omega (arith, up, rest)
    ]

pub root_is_least : (nodes : List ℕ) (count root : ℕ) → LeastIsAbove nodes → length nodes ≡ 2 * count → 0 < count → root ≡ node_at nodes 1 → IsAtMostEach root (drop count nodes)
root_is_least nodes count root h halves some is key within =
    let len : length (drop count nodes) ≡ length nodes - count = length-drop count nodes in
    let at : node_at (drop count nodes) key ≡ node_at nodes (count + key) = get_or-drop count nodes key 0 in
    let below : node_at nodes 1 ≤ node_at nodes (count + key) = root_below nodes h (count + key) (count + key) (omega arith) (omega arith) (omega (arith, len, within, halves)) in
    omega (arith, is, at, below)

-- ---- a leaf is set

-- but for one node, that may be below the one above it
abbrev pub LeastBut : ℕ → List ℕ → Type 0
LeastBut but nodes = (node : ℕ) → 2 ≤ node → node < length nodes → node ≢ but → slice_index_or nodes (node / 2) 0 ≤ slice_index_or nodes node 0

pub leaf_set : (nodes : List ℕ) (count leaf deadline : ℕ) → LeastIsAbove nodes → length nodes ≡ 2 * count → count ≤ leaf → LeastBut leaf (slice_set nodes leaf deadline)
leaf_set nodes count leaf deadline h halves low node two within other =
    let len : length (slice_set nodes leaf deadline) ≡ length nodes = length-set nodes leaf deadline in
    let inner : node < 2 * count = omega (arith, len, within, halves) in
    let above : node_at (slice_set nodes leaf deadline) (node / 2) ≡ node_at nodes (node / 2) = get_or-set_other nodes leaf (node / 2) deadline 0 (λ e. omega arith) in
    let here : node_at (slice_set nodes leaf deadline) node ≡ node_at nodes node = get_or-set_other nodes leaf node deadline 0 other in
    let was : node_at nodes (node / 2) ≤ node_at nodes node = h node two (omega (arith, len, within)) in
    omega (arith, above, here, was)

-- the node above the one that was set is mended, and then the one above it may be too high
pub mended : (nodes : List ℕ) (low up least : ℕ) → up ≡ low / 2 → 2 * up + 1 < length nodes → least ≡ min (node_at nodes (2 * up)) (node_at nodes (2 * up + 1)) → LeastBut low nodes → LeastBut up (slice_set nodes up least)
mended nodes low up least is two_below value h node two within other =
    let len : length (slice_set nodes up least) ≡ length nodes = length-set nodes up least in
    let here : node_at (slice_set nodes up least) node ≡ node_at nodes node = get_or-set_other nodes up node least 0 other in
    elim (cases_eq (node / 2) up) [
      | inl e ↦
          let top : node_at (slice_set nodes up least) (node / 2) ≡ least = ap (node_at (slice_set nodes up least)) e ∙ get_or-set_same nodes up least 0 (omega arith) in
          elim (cases_eq node (2 * up)) [
            | inl first ↦ let n : node_at nodes node ≡ node_at nodes (2 * up) = ap (node_at nodes) first in omega (arith, top, here, n, value)
            | inr ne ↦
                let second : node ≡ 2 * up + 1 = omega (arith, ne, e) in
                let n : node_at nodes node ≡ node_at nodes (2 * up + 1) = ap (node_at nodes) second in
                omega (arith, top, here, n, value)
          ]
      | inr ne ↦
          let above : node_at (slice_set nodes up least) (node / 2) ≡ node_at nodes (node / 2) = get_or-set_other nodes up (node / 2) least 0 ne in
          let was : node_at nodes (node / 2) ≤ node_at nodes node = h node two (omega (arith, len, within)) (λ e. ne (ap (λ n. n / 2) e ∙ sym is)) in
          omega (arith, above, here, was)
    ]

pub mended_all : (nodes : List ℕ) (low : ℕ) → low ≤ 1 → LeastBut low nodes → LeastIsAbove nodes
mended_all nodes low root h node two within = h node two within (λ e. omega arith)

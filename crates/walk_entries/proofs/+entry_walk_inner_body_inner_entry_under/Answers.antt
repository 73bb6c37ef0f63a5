-- `walk_entries::under`, `entry_walk`, `inner_entry` and `inner_body`, one cycle of calls, meet their contracts: by those of the functions that they
-- call, by the laws of entries and of the first box of an index entry; the levels left fall.
use Prim.Native.Nat.{◌+◌, ◌-◌, ◌<◌, ◌≤◌}
use mathlib.Core.Path.{◌≡◌, refl, sym, ◌∙◌}
use mathlib.Core.Bool.{true, false}
use native.Mathlib.Omega.{arith}
use lib.ListN.{length}
use Rattle.fields.proofs.Answers.{head_in}
use Rattle.walk_entries.proofs.Laws.{handed}
use Rattle.walk_entries.specs.Views.{below_d, depth_at}
use Rattle.levels.proofs.Chosen.{chosen, altered_told}
use Rattle.walk_entries.proofs.Laws.{entry_ends_lem, entry_there, back_altered, slot_asks, entry_carried, index_low, index_halt}
use Rattle.walk_entries.proofs.Laws.{entry_off, entry_on, entries_over, stands_on}
use Rattle.walk_entries.proofs.Inner.{inner_told, inner_shallow, inner_off, inner_flawed, inner_clean, body_off, body_on, index_fixed, head_low}
use Rattle.walk_entries.proofs.+entry_walk_inner_body_inner_entry_under.Goals as goal

-- One entry.
pub entry_walk-overflow_add-base : goal.entry_walk-overflow_add-base
entry_walk-overflow_add-base t c =
    let asks = c.requires.0 in
    let stands = asks.stands in
    omega arith

pub entry_walk-returns-then-so-base : goal.entry_walk-returns-then-so-base
entry_walk-returns-then-so-base t c =
    let a = c.args in
    let asks = c.requires.0 in
    record {
      right = entry_ends_lem a.base a.bytes.now a.so a.work.now a.table.now (below_d a.left a.top) a.top (depth_at a.left) a.l asks.stands.after c.if-so-base.true;
      work_long = refl;
      table_long = refl;
      stands = tt;
    }

pub entry_walk-read_back-requires : goal.entry_walk-read_back-requires
entry_walk-read_back-requires t c =
    let asks = c.requires.0 in
    let stands = asks.stands in
    (asks.some, asks.most, c.requires.1, asks.count, stands.timely, omega arith, asks.area)

pub entry_walk-overflow_add-result : goal.entry_walk-overflow_add-result
entry_walk-overflow_add-result t c =
    let asks = c.requires.0 in
    let stands = asks.stands in
    omega arith

pub entry_walk-returns-in_default : goal.entry_walk-returns-in_default
entry_walk-returns-in_default t c =
    let a = c.args in
    let asks = c.requires.0 in
    let stands = asks.stands in
    let there : a.so.n < a.base + length a.bytes.now = omega (arith, c.if-so-base.false) in
    record {
      right =
          back_altered a.base a.bytes.now a.so a.work.now a.table.now (below_d a.left a.top) a.top (depth_at a.left) a.l stands.after _
          (altered_told _ _ _ (sym c.read_back.ensures ∙ c.in_default.is))
          ∙ sym (entry_there a.base a.bytes.now a.so a.work.now a.table.now (below_d a.left a.top) a.top (depth_at a.left) a.l stands.after there);
      work_long = refl;
      table_long = refl;
      stands = tt;
    }

pub entry_walk-inner_entry-requires : goal.entry_walk-inner_entry-requires
entry_walk-inner_entry-requires t c =
    let a = c.args in
    let asks = c.requires.0 in
    let more = c.requires.1 in
    let stands = asks.stands in
    let picked = chosen _ _ _ _ _ (sym c.read_back.ensures ∙ c.in-Some.is) in
    (omega (arith, c.decreases), (slot_asks a.left a.l a.base a.bytes.now a.work.now a.so asks more _ picked.0 _ picked.2, asks.some, asks.most, asks.area))

pub entry_walk-returns-then-inner : goal.entry_walk-returns-then-inner
entry_walk-returns-then-inner t c =
    let a = c.args in
    let asks = c.requires.0 in
    let more = c.requires.1 in
    let stands = asks.stands in
    let picked = chosen _ _ _ _ _ (sym c.read_back.ensures ∙ c.in-Some.is) in
    let there : a.so.n < a.base + length a.bytes.now = omega (arith, c.if-so-base.false) in
    entry_carried a.left a.l a.base a.bytes.now a.work.now a.table.now _ _ a.so asks more there a.top _ true _
    picked.0 (picked.1 ∙ c.if-inner.true) picked.2 c.inner_entry.ensures

pub entry_walk-leaf_entry-requires : goal.entry_walk-leaf_entry-requires
entry_walk-leaf_entry-requires t c =
    let a = c.args in
    let asks = c.requires.0 in
    let more = c.requires.1 in
    let stands = asks.stands in
    let picked = chosen _ _ _ _ _ (sym c.read_back.ensures ∙ c.in-Some.is) in
    slot_asks a.left a.l a.base a.bytes.now a.work.now a.so asks more _ picked.0 _ picked.2

pub entry_walk-returns : goal.entry_walk-returns
entry_walk-returns t c =
    let a = c.args in
    let asks = c.requires.0 in
    let more = c.requires.1 in
    let stands = asks.stands in
    let picked = chosen _ _ _ _ _ (sym c.read_back.ensures ∙ c.in-Some.is) in
    let there : a.so.n < a.base + length a.bytes.now = omega (arith, c.if-so-base.false) in
    entry_carried a.left a.l a.base a.bytes.now a.work.now a.table.now _ _ a.so asks more there a.top _ false _
    picked.0 (picked.1 ∙ c.if-inner.false) picked.2 (c.leaf_entry.ensures a.top (depth_at a.left) (below_d a.left a.top) a.work.now refl)

-- The body of an inner index.
pub inner_body-overflow_add-end : goal.inner_body-overflow_add-end
inner_body-overflow_add-end t c =
    let a = c.args in
    let asks = c.requires.0 in
    let stands = asks.stands in
    let heads = c.requires.4 in
    omega arith

pub inner_body-overflow_sub-left : goal.inner_body-overflow_sub-left
inner_body-overflow_sub-left t c =
    let a = c.args in
    let asks = c.requires.0 in
    let stands = asks.stands in
    let heads = c.requires.4 in
    omega (arith, c.requires.1, c.requires.2)

pub inner_body-overflow_add-h : goal.inner_body-overflow_add-h
inner_body-overflow_add-h t c =
    let a = c.args in
    let asks = c.requires.0 in
    let stands = asks.stands in
    let heads = c.requires.4 in
    omega arith

pub inner_body-index_walk-index-requires : goal.inner_body-index_walk-index-requires
inner_body-index_walk-index-requires t c =
    let a = c.args in
    let asks = c.requires.0 in
    let stands = asks.stands in
    let heads = c.requires.4 in
    (omega (arith, c.requires.1), stands.timely, omega arith, omega arith, omega arith, heads.there, c.requires.3)

pub inner_body-placed-requires : goal.inner_body-placed-requires
inner_body-placed-requires t c =
    let a = c.args in
    let asks = c.requires.0 in
    let stands = asks.stands in
    let heads = c.requires.4 in
    (omega arith, index_low (a.h.pos + a.h.size) _ (omega arith) (index_halt a.bytes.now _ c.in-Err.is c.index_walk-index.ensures.fixed))

pub inner_body-shape_of-work-in-Err : goal.inner_body-shape_of-work-in-Err
inner_body-shape_of-work-in-Err t c = c.index_walk-index.ensures.long

pub inner_body-returns-in-Err : goal.inner_body-returns-in-Err
inner_body-returns-in-Err t c =
    let a = c.args in
    let asks = c.requires.0 in
    let stands = asks.stands in
    let heads = c.requires.4 in
    rw c.placed.ensures (record {
      right = body_off a.base a.bytes.now a.left a.top a.slot a.h a.so a.work.now a.table.now _ _ c.index_walk-index.ensures _ c.in-Err.is;
      work_long = c.index_walk-index.ensures.long;
      table_long = refl;
      stands = tt;
    })

pub inner_body-overflow_add-inside : goal.inner_body-overflow_add-inside
inner_body-overflow_add-inside t c =
    let a = c.args in
    let asks = c.requires.0 in
    let stands = asks.stands in
    let heads = c.requires.4 in
    omega arith

pub inner_body-overflow_sub-left-in-Ok : goal.inner_body-overflow_sub-left-in-Ok
inner_body-overflow_sub-left-in-Ok t c =
    let a = c.args in
    let asks = c.requires.0 in
    let stands = asks.stands in
    let heads = c.requires.4 in
    omega (arith, c.requires.1)

pub inner_body-under-requires : goal.inner_body-under-requires
inner_body-under-requires t c =
    let a = c.args in
    let asks = c.requires.0 in
    let stands = asks.stands in
    let heads = c.requires.4 in
    let fixed = index_fixed a.bytes.now (a.h.pos + a.h.size) _ _ c.in-Ok.is c.index_walk-index.ensures.fixed in
    let long = c.index_walk-index.ensures.long in
    let two = c.requires.1 in
    let four = c.requires.2 in
    let area = c.requires.3 in (
      omega (arith, c.decreases),
      record {
        some = omega arith;
        most = omega arith;
        next = omega arith;
        count = fixed.1;
        end = asks.end;
        area = omega arith;
        stands = record { after = omega arith; inside = omega (arith, fixed.2); within = heads.within; timely = stands.timely; few = stands.few };
      },
    )

pub inner_body-returns-in-Ok : goal.inner_body-returns-in-Ok
inner_body-returns-in-Ok t c =
    let a = c.args in
    let asks = c.requires.0 in
    let stands = asks.stands in
    let heads = c.requires.4 in
    let carried = c.under.ensures in
    record {
      right =
          carried.right
          ∙ body_on a.base a.bytes.now a.left a.top a.slot a.h a.so a.work.now a.table.now _ _ c.index_walk-index.ensures _ c.in-Ok.is
          c.requires.1 c.requires.2;
      work_long = carried.work_long ∙ c.index_walk-index.ensures.long;
      table_long = carried.table_long;
      stands = carried.stands;
    }

-- The first box of an index entry.
pub inner_entry-overflow_sub-at : goal.inner_entry-overflow_sub-at
inner_entry-overflow_sub-at t c =
    let a = c.args in
    let asks = c.requires.0 in
    let stands = asks.stands in
    omega arith

pub inner_entry-overflow_sub-end : goal.inner_entry-overflow_sub-end
inner_entry-overflow_sub-end t c =
    let a = c.args in
    let asks = c.requires.0 in
    let stands = asks.stands in
    omega arith

pub inner_entry-quick_head-requires : goal.inner_entry-quick_head-requires
inner_entry-quick_head-requires t c =
    let a = c.args in
    let asks = c.requires.0 in
    let stands = asks.stands in
    omega arith

pub inner_entry-placed-requires : goal.inner_entry-placed-requires
inner_entry-placed-requires t c =
    let a = c.args in
    let asks = c.requires.0 in
    let stands = asks.stands in
    (omega arith, head_low a.bytes.now (a.slot.pos - a.base) (a.slot.end - a.base) _ (sym c.quick_head.ensures ∙ c.in-Err.is) (omega arith) (omega arith))

pub inner_entry-returns-in-Err : goal.inner_entry-returns-in-Err
inner_entry-returns-in-Err t c =
    let a = c.args in
    let asks = c.requires.0 in
    let stands = asks.stands in
    let here : a.slot.pos - a.base ≤ length a.bytes.now = omega arith in
    let ends : a.slot.end ≡ a.base + (a.slot.end - a.base) = omega arith in
    let pos : a.so.n ≡ a.base + (a.slot.pos - a.base) = omega arith in
    rw c.placed.ensures (record {
      right = inner_off a.base (a.slot.pos - a.base) (a.slot.end - a.base) a.bytes.now a.slot (below_d a.left a.top) a.top
          (depth_at a.left) a.so a.work.now a.table.now here ends pos _ (sym c.quick_head.ensures ∙ c.in-Err.is);
      work_long = refl;
      table_long = refl;
      stands = tt;
    })

pub inner_entry-overflow_sub-left : goal.inner_entry-overflow_sub-left
inner_entry-overflow_sub-left t c = omega (arith, c.requires.1, c.requires.2)

pub inner_entry-overflow_add-at : goal.inner_entry-overflow_add-at
inner_entry-overflow_add-at t c =
    let a = c.args in
    let asks = c.requires.0 in
    let stands = asks.stands in
    let inside = head_in a.bytes.now (a.slot.pos - a.base) (a.slot.end - a.base) _ (sym c.quick_head.ensures ∙ c.in-Ok.is) in
    omega arith

pub inner_entry-placed-requires-in-Some : goal.inner_entry-placed-requires-in-Some
inner_entry-placed-requires-in-Some t c =
    let a = c.args in
    let asks = c.requires.0 in
    let stands = asks.stands in
    let inside = head_in a.bytes.now (a.slot.pos - a.base) (a.slot.end - a.base) _ (sym c.quick_head.ensures ∙ c.in-Ok.is) in
    let stop = c.stop_at-stop.ensures in
    (omega arith, rw stop (omega arith, omega arith))

pub inner_entry-returns-in-Some : goal.inner_entry-returns-in-Some
inner_entry-returns-in-Some t c =
    let a = c.args in
    let asks = c.requires.0 in
    let stands = asks.stands in
    let inside = head_in a.bytes.now (a.slot.pos - a.base) (a.slot.end - a.base) _ (sym c.quick_head.ensures ∙ c.in-Ok.is) in
    let here : a.slot.pos - a.base ≤ length a.bytes.now = omega arith in
    let ends : a.slot.end ≡ a.base + (a.slot.end - a.base) = omega arith in
    let pos : a.so.n ≡ a.base + (a.slot.pos - a.base) = omega arith in
    let told = inner_told a.base (depth_at a.left) _ c.top_flaw.ensures c.inner_kind_flaw.ensures in
    rw (c.placed-in-Some.ensures, c.stop_at-stop.ensures) (record {
      right = inner_flawed a.base (a.slot.pos - a.base) (a.slot.end - a.base) a.bytes.now a.slot (below_d a.left a.top) a.top
          (depth_at a.left) a.so a.work.now a.table.now here ends pos _ (sym c.quick_head.ensures ∙ c.in-Ok.is) inside.pos _ told _ c.in-Some.is;
      work_long = refl;
      table_long = refl;
      stands = tt;
    })

pub inner_entry-inner_body-requires : goal.inner_entry-inner_body-requires
inner_entry-inner_body-requires t c =
    let a = c.args in
    let asks = c.requires.0 in
    let stands = asks.stands in
    let inside = head_in a.bytes.now (a.slot.pos - a.base) (a.slot.end - a.base) _ (sym c.quick_head.ensures ∙ c.in-Ok.is) in
    let shallow = inner_shallow (depth_at a.left) _ c.top_flaw.ensures c.inner_kind_flaw.ensures c.in-None.is in (
      omega (arith, c.decreases),
      (
        asks,
        omega (arith, shallow, c.requires.1),
        c.requires.2,
        c.requires.3,
        record { here = omega arith; holds = inside.holds; long = inside.long; within = omega arith; there = omega arith },
      ),
    )

pub inner_entry-returns-in-None : goal.inner_entry-returns-in-None
inner_entry-returns-in-None t c =
    let a = c.args in
    let asks = c.requires.0 in
    let stands = asks.stands in
    let inside = head_in a.bytes.now (a.slot.pos - a.base) (a.slot.end - a.base) _ (sym c.quick_head.ensures ∙ c.in-Ok.is) in
    let here : a.slot.pos - a.base ≤ length a.bytes.now = omega arith in
    let ends : a.slot.end ≡ a.base + (a.slot.end - a.base) = omega arith in
    let pos : a.so.n ≡ a.base + (a.slot.pos - a.base) = omega arith in
    let told = inner_told a.base (depth_at a.left) _ c.top_flaw.ensures c.inner_kind_flaw.ensures in
    let carried = c.inner_body.ensures in
    record {
      right = carried.right ∙ sym (inner_clean a.base (a.slot.pos - a.base) (a.slot.end - a.base) a.bytes.now a.slot (below_d a.left a.top) a.top
          (depth_at a.left) a.so a.work.now a.table.now here ends pos _ (sym c.quick_head.ensures ∙ c.in-Ok.is) inside.pos _ told c.in-None.is);
      work_long = carried.work_long;
      table_long = carried.table_long;
      stands = carried.stands;
    }

pub under-loop-l-init : goal.under-loop-l-init
under-loop-l-init t c =
    let asks = c.requires in
    record { count = refl; end = refl; until = refl; next = asks.next; stands = asks.stands; work_long = refl; table_long = refl; rest = refl }

pub under-entry_walk-requires : goal.under-entry_walk-requires
under-entry_walk-requires t c =
    let inv = c.loop-l.invariant in
    let a = c.args in
    let asks = c.requires in
    let area = asks.area in (
      omega (arith, c.decreases),
      (
        record {
          some = asks.some;
          most = asks.most;
          next = inv.next;
          count = omega (arith, inv.count, asks.count);
          end = omega (arith, inv.end, asks.end);
          area = omega (arith, inv.work_long);
          stands = inv.stands;
        },
        c.loop-l-test.true,
      ),
    )

pub under-returns-in_err-so : goal.under-returns-in_err-so
under-returns-in_err-so t c =
    let inv = c.loop-l.invariant in
    let a = c.args in
    let asks = c.requires in
    let carried = c.entry_walk.ensures in
    rw (handed c.from_residual.ensures.1) (record {
      right = entry_off a.left a.top c.loop-l.l a.base a.bytes.now c.loop-l.so _ _ _ _ _ c.loop-l-test.true carried.right _ c.in_err-so.was ∙ inv.rest;
      work_long = carried.work_long ∙ inv.work_long;
      table_long = carried.table_long ∙ inv.table_long;
      stands = tt;
    })

pub under-overflow_add-l : goal.under-overflow_add-l
under-overflow_add-l t c =
    let inv = c.loop-l.invariant in
    let a = c.args in
    let asks = c.requires in
    let carried = c.entry_walk.ensures in
    omega (arith, c.loop-l-test.true, inv.count, asks.count)

pub under-loop-l-smaller : goal.under-loop-l-smaller
under-loop-l-smaller t c =
    let inv = c.loop-l.invariant in
    let a = c.args in
    let asks = c.requires in
    let carried = c.entry_walk.ensures in
    omega (arith, c.loop-l-test.true)

pub under-loop-l-preserved : goal.under-loop-l-preserved
under-loop-l-preserved t c =
    let inv = c.loop-l.invariant in
    let a = c.args in
    let asks = c.requires in
    let carried = c.entry_walk.ensures in
    record {
      count = inv.count;
      end = inv.end;
      until = inv.until;
      next = omega (arith, c.loop-l-test.true);
      stands = stands_on _ _ _ _ _ _ c.in_ok-so.was carried.stands;
      work_long = carried.work_long ∙ inv.work_long;
      table_long = carried.table_long ∙ inv.table_long;
      rest = entry_on a.left a.top c.loop-l.l a.base a.bytes.now c.loop-l.so _ _ _ _ _ c.loop-l-test.true carried.right _ c.in_ok-so.was ∙ inv.rest;
    }

pub under-returns : goal.under-returns
under-returns t c =
    let inv = c.loop-l.invariant in
    let a = c.args in
    let asks = c.requires in
    record {
      right = entries_over a.left a.top c.loop-l.l a.base a.bytes.now c.loop-l.so _ _ c.loop-l-test.false ∙ inv.rest;
      work_long = inv.work_long;
      table_long = inv.table_long;
      stands = rw (← inv.end, ← inv.until) inv.stands;
    }

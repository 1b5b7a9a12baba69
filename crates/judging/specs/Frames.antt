-- The sizes of a comparison.
use Rattle.std.specs.Prelude.{◌≡◌, ℕ, ◌+◌, ◌*◌, ◌≤◌, max, Bool, true, false, length, Some, None, Option}
use Rattle.table.specs.Table.{Table, final_total_of}
use Rattle.steps.specs.Places.{steps_needed_lem}
use Rattle.replay.specs.Sizes.{longest_of}
use Rattle.judging.specs.declared.frame.Frame.{Frame}

-- the longest output of either table, and at least 1
abbrev pub width_of : {G T : Type 0} → Table G T → Table G T → ℕ
width_of F H = max 1 (max (longest_of F) (longest_of H))

-- how many symbols a comparison of two tables may write for a text of one side
abbrev pub room_of : {G T : Type 0} → Table G T → Table G T → ℕ
room_of F H = (steps_needed_lem (length F.states) (length H.states) + 1) * width_of F H

-- the frame of two tables
pub record Framed {G T : Type 0} (F H : Table G T) (f : Frame) : Type 0 where
  pub left : f.left ≡ length F.states
  pub right : f.right ≡ length H.states
  pub left_first : f.left_first ≡ final_total_of F.states
  pub right_first : f.right_first ≡ final_total_of H.states
  pub few_left : f.left ≤ 64
  pub few_right : f.right ≤ 64
  pub low : 1 ≤ f.width
  pub most : f.width ≤ 32
  pub wide_left : longest_of F ≤ f.width
  pub wide_right : longest_of H ≤ f.width
  pub room : f.room ≡ (steps_needed_lem f.left f.right + 1) * f.width

-- both sides have a state, or neither has
abbrev pub both_live_lem : Option ℕ → Option ℕ → Bool
both_live_lem None r = false
both_live_lem (Some l) None = false
both_live_lem (Some l) (Some r) = true

abbrev pub both_dead_lem : Option ℕ → Option ℕ → Bool
both_dead_lem None None = true
both_dead_lem None (Some r) = false
both_dead_lem (Some l) r = false

-- Cited by private functions alone: Claims::join_seats.
-- A seat that stands for many.
use Rattle.std.specs.Prelude.{◌≡◌, ℕ, ◌<◌, ◌≤◌, List, [], length, true}
use Rattle.atomic_table.specs.Seated.{TableId}
use Rattle.atomic_table.specs.declared.shared.Seat.{Seat}
use Rattle.claims.specs.declared.rule.Hand.{Hand}
use Rattle.claims.specs.Draws.{times, late}
use Rattle.claims.specs.Seats.{Drawer, all_drawn, any_done}

-- the seat stands for all of these, and has drawn what they have
pub record IsUnited (total : ℕ) (table : TableId) (seats : List Drawer) (s : Seat (Unit {0}) Hand) : Type 0 where
  pub table_is : s.table_id ≡ table
  pub no_slot : s.me.1 ≡ []
  pub seats_is : s.me.0.seats ≡ length seats
  pub total_is : s.me.0.total ≡ total
  pub drawn_is : (x : ℕ) → times x s.me.0.drawn ≡ times x (all_drawn seats)
  pub past : any_done seats ≡ true → 0 < late total s.me.0.drawn
  pub few : late total s.me.0.drawn ≤ length seats

pub mod JoinedSeats

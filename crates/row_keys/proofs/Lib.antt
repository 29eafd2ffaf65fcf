-- Proofs.
mod Codes

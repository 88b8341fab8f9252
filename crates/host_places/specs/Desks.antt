-- A desk: a place of a host.
use Rattle.group_history.specs.Map.{Bytes}
use Rattle.client_desk.specs.Places.{PlaceState}
use denote.RawPtr.{Ptr}

-- a place with the bytes that its last call told, which lie from this address on
pub record DeskState : Type 0 where
  pub place : PlaceState
  pub bytes : Bytes
  pub start : Ptr

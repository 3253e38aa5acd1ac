-- The number of a message that sends a page, by what it locks.
use Prim.Native.Nat.{ℕ}
use Rattle.line.specs.Messages.{Lock, NoLock, ObjectLock, WholeLock}

-- the kind that brings a page with this lock
abbrev pub kind_for : Lock → ℕ
kind_for NoLock = 16
kind_for ObjectLock = 17
kind_for WholeLock = 18

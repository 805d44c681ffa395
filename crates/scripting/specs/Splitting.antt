-- Lines and words. Assumes nothing.
use Rattle.std.specs.Prelude.{◌≡◌, ℕ, ◌+◌, ◌<◌, ◌≤◌, List, length, take, drop, ◌≢◌, slice_index}

-- i bytes come before the first b, or before the end
pub record First (b : ℕ) (bs : List ℕ) (i : ℕ) : Type 0 where
  pub within : i ≤ length bs
  pub before : (k : ℕ) → k < i → slice_index bs k ≢ b
  pub found : i < length bs → slice_index bs i ≡ b

-- i bytes b come first, and then another byte or the end
pub record Begins (b : ℕ) (bs : List ℕ) (i : ℕ) : Type 0 where
  pub within : i ≤ length bs
  pub all : (k : ℕ) → k < i → slice_index bs k ≡ b
  pub other : i < length bs → slice_index bs i ≢ b

-- nothing but spaces
abbrev pub Blank : List ℕ → Type 0
Blank line = Begins 32 line (length line)

-- after spaces comes the word, up to the next space or the end, and then the rest
pub record NextWord (line word rest : List ℕ) : Type 0 where
  pub start : ℕ
  pub spaces : Begins 32 line start
  pub more : start < length line
  pub count : ℕ
  pub ends : First 32 (drop start line) count
  pub is_word : word ≡ take count (drop start line)
  pub is_rest : rest ≡ drop count (drop start line)

-- what follows the first newline
pub record Later (bytes rest : List ℕ) : Type 0 where
  pub count : ℕ
  pub line : First 10 bytes count
  pub is_rest : rest ≡ drop (count + 1) bytes

-- so many bytes, which a newline or the end follows
pub record Block (bytes : List ℕ) (size : ℕ) (text : List ℕ) : Type 0 where
  pub within : size ≤ length bytes
  pub is_text : text ≡ take size bytes
  pub ends : size < length bytes → slice_index bytes size ≡ 10

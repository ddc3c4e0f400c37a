-- HMAC with SHA-256: RFC 2104, section 2. A block of SHA-256 has 64 bytes (FIPS 180-4, figure 1).
use Rattle.std.specs.Prelude.{ℕ, ◌-◌, List, ◌++◌, map, length, replicate, bit_xor, nat_lt, if◌then◌else◌}
use Rattle.sha2.specs.Sha256.{sha256}
use Rattle.tab_auth.specs.declared.digests.TheConstants.{BLOCK}

-- a key that is longer than a block is digested first
abbrev pub short_key : List ℕ → List ℕ
short_key key = if nat_lt BLOCK (length key) then sha256 key else key

-- a key with zeros up to the end of a block
abbrev pub padded_key : List ℕ → List ℕ
padded_key key = key ++ replicate (BLOCK - length key) 0

-- each byte by exclusive or with the same one
abbrev pub masked : ℕ → List ℕ → List ℕ
masked mask bytes = map (λ byte. bit_xor byte mask) bytes

-- the digest of a key's masked block and a text
unfoldable pub keyed_digest : ℕ → List ℕ → List ℕ → List ℕ
keyed_digest mask key text = sha256 (masked mask (padded_key key) ++ text)

-- H(K XOR opad, H(K XOR ipad, text))
unfoldable pub hmac : List ℕ → List ℕ → List ℕ
hmac key text = keyed_digest 0x5C (short_key key) (keyed_digest 0x36 (short_key key) text)

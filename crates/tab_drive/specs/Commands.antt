-- The words of a run, and how a run ends.
use Rattle.std.specs.Prelude.{◌≡◌, ℕ, ◌+◌, ◌⊎◌, List, [], ◌∷◌, length, Bool, true, false, ◌||◌, nat_lt, if◌then◌else◌, codes, bytes_eq, Option, Some, None, option_map}
use Rattle.std.specs.Char.{is_ascii_lowercase, is_ascii_digit}
use Rattle.std.specs.List.{list_all}
use Rattle.base64.specs.Engines.{standard}
use Rattle.base64.specs.GeneralPurpose.{decoded_of}
use Rattle.tab_auth.specs.declared.signatures.Keys.{Keys}
use Rattle.tab_history.specs.declared.entries.Entry.{Entry}
use Rattle.tab_drive.specs.Runs.{Traffic, Stops, TookLine, refused_line, read_fault_line, memory_line}
use Rattle.tab_drive.specs.declared.runs.TheConstants.{SHORTEST_ACCOUNT, LONGEST_ACCOUNT}
use Rattle.tab_drive.specs.declared.serving.RunStop.{RunStop}
use Rattle.tab_drive.specs.declared.serving.RunStop.TheVariants.{End, Refused, ReadFault, WriteFault, Memory}

-- a lower-case ASCII letter or a digit
abbrev pub is_account_byte : ℕ → Bool
is_account_byte b = is_ascii_lowercase b || is_ascii_digit b

-- lower-case ASCII letters and digits, as few and as many as the limits say
unfoldable pub is_account : List ℕ → Bool
is_account name =
    if nat_lt (length name) SHORTEST_ACCOUNT then false
    else (if nat_lt LONGEST_ACCOUNT (length name) then false else list_all is_account_byte name)

-- a word says which key an account has: `-` that it is open, and otherwise the key in standard Base64 (RFC 4648, section 4)
abbrev pub key_of : List ℕ → Option (Option (List ℕ))
key_of word = if bytes_eq word (codes "-") then Some None else option_map (λ key. Some key) (decoded_of standard word)

-- the account of that name, with the key that the word says
pub record IsNamed (name word : List ℕ) (keys : Keys) : Type 0 where
  pub account_is : keys.account ≡ name
  pub key_is : key_of word ≡ Some keys.key

-- the words `drive ACCOUNT KEY`
pub record IsDrive (words : List (List ℕ)) (keys : Keys) : Type 0 where
  pub name : List ℕ
  pub word : List ℕ
  pub spelled : words ≡ codes "drive" ∷ name ∷ word ∷ []
  pub allowed : is_account name ≡ true
  pub named : IsNamed name word keys

-- they are no such words
abbrev pub IsNoDrive : List (List ℕ) → Type 0
IsNoDrive words = (keys : Keys) → IsDrive words keys → ⊥

-- the word `init`
abbrev pub IsInit : List (List ℕ) → Type 0
IsInit words = words ≡ codes "init" ∷ []

-- the words are none of the commands'
pub record IsNoCommand (words : List (List ℕ)) : Type 0 where
  pub no_drive : IsNoDrive words
  pub no_init : IsInit words → ⊥

-- the words are `drive`, an account's name and a third word
pub record NamesAccount (words : List (List ℕ)) : Type 0 where
  pub name : List ℕ
  pub word : List ℕ
  pub spelled : words ≡ codes "drive" ∷ name ∷ word ∷ []
  pub allowed : is_account name ≡ true

-- the words are `drive`, an account's name and a word that has to be read as a key, since it is not `-`
pub record NamesKey (words : List (List ℕ)) : Type 0 where
  pub named : NamesAccount words
  pub is_read : bytes_eq named.word (codes "-") ≡ false

-- the exit status of a schedule that stopped so
abbrev pub status_of : RunStop → ℕ
status_of End = 0
status_of Refused = 2
status_of ReadFault = 3
status_of WriteFault = 4
status_of Memory = 7

-- the exit statuses that a run may have
abbrev pub exit_statuses : List ℕ
exit_statuses = 0 ∷ 1 ∷ 2 ∷ 3 ∷ 4 ∷ 5 ∷ 7 ∷ 8 ∷ []

-- its last line
abbrev pub line_of : RunStop → ℕ → List ℕ
line_of End done = []
line_of Refused done = refused_line (done + 1)
line_of ReadFault done = read_fault_line
line_of WriteFault done = []
line_of Memory done = memory_line

-- a schedule was served up to its stop, and its last line was written
pub record Drove (keys : Keys) (moment : ℕ) (traffic : Traffic) (faults_before faults : ℕ) (status : ℕ) (history : List Entry) (done : ℕ) : Type 0 where
  pub stop : RunStop
  pub status_is : status ≡ status_of stop
  pub middle : Option (List ℕ)
  pub stops : Stops keys moment (record traffic { taken = middle }) history done stop
  pub line : TookLine middle traffic.taken faults_before faults (line_of stop done)

-- nothing was read, and one line was written
pub record SaidOnly (traffic : Traffic) (faults_before faults : ℕ) (said : List ℕ) (history : List Entry) (done : ℕ) : Type 0 where
  pub unread : traffic.left ≡ traffic.left_before
  pub line : TookLine traffic.taken_before traffic.taken faults_before faults said
  pub history_is : history ≡ []
  pub counted : done ≡ 0

-- how the command `drive` ends: by its schedule's stop, or at once, where no memory was found to open a store
abbrev pub Drives : Keys → ℕ → Traffic → ℕ → ℕ → ℕ → List Entry → ℕ → Type 0
Drives keys moment traffic faults_before faults status history done =
    Drove keys moment traffic faults_before faults status history done
    ⊎ ((status ≡ 7) × SaidOnly traffic faults_before faults memory_line history done)

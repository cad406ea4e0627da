-- Laws of the calls on one encoded type: what stands where its bytes were opened, and what the answers come to.
mod Asking
mod Parts
mod Forms
